use Rattle.std.proofs.Common.{rules, ◌≡◌, ◌+◌, ◌-◌, ◌++◌, length, take, drop, sym, ◌∙◌, ap, arith, length-drop}
use Rattle.std.proofs.lemmas.List.{length-take-le}
use Rattle.xls_passwords.specs.Plain.{plain_body, decrypted}
use Rattle.xls_passwords.specs.Records.{records_from}
use Rattle.xls_passwords.specs.Streams.{cipher_key, cipher_offset}
use borrow.Rule.Slice.PartMut.{put_mid}
use Rattle.xls_passwords.proofs.PlainLemmas.{decrypted-place, decrypted-end}
use Rattle.xls_passwords.proofs.plain.decrypt_from.Goals as goal

pub records-preserved : goal.records-preserved
records-preserved c =
    let at = c.records.offset in
    let stream = c.records.stream in
    let place = c.place_at-place.result in
    let told = c.place_at-place.ensures in
    let plain = c.decrypt.new.body in
    let key : cipher_key c.skip-in-records.new.self ≡ c.args.key = c.skip-in-records.ensures.key ∙ c.records.invariant.key in
    let offset : cipher_offset c.skip-in-records.new.self ≡ at + 4 = c.skip-in-records.ensures.offset ∙ ap (λ n. n + 4) c.records.invariant.offset in
    let old = take (place.end - place.start) (drop place.start stream) in
    let old_len : length old ≡ place.end - place.start =
    length-take-le (place.end - place.start) (drop place.start stream) (omega (arith, told.start, told.end, length-drop place.start stream)) in
    let len : length plain ≡ place.end - (at + 4) = c.decrypt.auto.body ∙ old_len ∙ ap (λ n. place.end - n) told.start in
    let exact : plain ≡ plain_body c.args.key (at + 4) place.typ place.size (take (place.end - (at + 4)) (drop (at + 4) stream)) =
    c.decrypt.ensures.exact ∙ ap (λ k. plain_body k (cipher_offset c.skip-in-records.new.self) place.typ place.size old) key
    ∙ ap (λ n. plain_body c.args.key n place.typ place.size old) offset
    ∙ ap (λ n. plain_body c.args.key (at + 4) place.typ place.size (take (place.end - n) (drop n stream))) told.start in record {
      within = (let whole : length (put_mid place.start (place.end - place.start) stream plain) ≡ length stream = search rules in omega (arith, whole, told.end));
      ready = c.decrypt.ensures.ready;
      key = c.decrypt.ensures.key ∙ key;
      offset = c.decrypt.ensures.offset ∙ omega (arith, offset, old_len, told.start, told.end);
      same = ap (λ n. take place.end (put_mid n (place.end - n) stream plain) ++ decrypted c.args.key (records_from place.end (drop place.end (put_mid n (place.end - n) stream plain)))) told.start
          ∙ decrypted-place c.args.key place.typ at place.size place.end stream plain (omega arith) told.typ told.size told.end exact len
          ∙ c.records.invariant.same;
    }

pub returns : goal.returns
returns c = sym (decrypted-end c.args.key c.records.offset c.records.stream (omega arith)) ∙ c.records.invariant.same
