use Rattle.std.proofs.Common.{length, true, ◌∙◌, arith}
use Rattle.xls_passwords.proofs.PlainLemmas.{found, made_plain}
use Rattle.xls_passwords.proofs.plain.make_plain.Goals as goal

pub decrypt_from-requires : goal.decrypt_from-requires
decrypt_from-requires c = (found (length c.args.stream.now) c.args.key true 0 c.args.stream.now c.args.place (omega arith) c.requires).fits

pub clear-requires-clause-room : goal.clear-requires-clause-room
clear-requires-clause-room c = (found (length c.args.stream.now) c.args.key true 0 c.args.stream.now c.args.place (omega arith) c.requires).room

pub clear-requires-clause-within : goal.clear-requires-clause-within
clear-requires-clause-within c =
    let there = found (length c.args.stream.now) c.args.key true 0 c.args.stream.now c.args.place (omega arith) c.requires in
    omega (arith, there.fits, c.decrypt_from.auto.stream)

pub returns : goal.returns
returns c = record {
  exact = c.clear.ensures ∙ made_plain c.args.key c.args.place c.args.stream.now c.decrypt_from.new.stream
      (found (length c.args.stream.now) c.args.key true 0 c.args.stream.now c.args.place (omega arith) c.requires) c.decrypt_from.ensures;
}
