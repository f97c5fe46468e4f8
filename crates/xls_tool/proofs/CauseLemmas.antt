-- Which cause an exit status has.
use Rattle.std.proofs.Common.{◌≡◌, ◌≢◌, ◌⊎◌, ◌∙◌, refl, false, ℕ, List, [], ◌∷◌, map, Option, Some, None, Result, Ok, Err, Bor, inl, inr, subst, sym}
use Rattle.std.proofs.KnownBytes.{Keeps-refl}
use lib.ListN.{get_or}
use Rattle.xls_files.specs.Reads.{Stays}
use Rattle.xls_files.specs.declared.host.Reason.{Reason}
use Rattle.xls_files.specs.declared.host.Reason.TheVariants as reasons
use Rattle.xls_output.specs.SinkState.{SinkState}
use Rattle.xls_output.specs.declared.stop.Stop.{Stop}
use Rattle.xls_tool.specs.declared.job.Reading.{Reading}
use Rattle.xls_open.specs.declared.options.XlsOptions.{XlsOptions}
use Rattle.xls_tool.specs.Problems.{problem_status, status_of_file, status_of_work}
use Rattle.xls_tool.specs.Steps.{EndsPath, EndsText, IsUnread, OfPath}
use Rattle.xls_tool.specs.Texts.{HasCause, reading_under}
use Rattle.xls_tool.specs.declared.problem.Problem.{Problem}
use Rattle.xls_tool.specs.declared.problem.Problem.TheVariants as problems
use Rattle.xls_words.specs.Requests.{AreNamed, IsPlainRequest, is_exact, plain_command}
use Rattle.xls_words.specs.declared.request.Command.{Command}
use Rattle.xls_words.specs.declared.request.Command.TheVariants.{Check}
use Rattle.xls_words.specs.declared.request.Request.{Request}
use Rattle.xls_words.specs.declared.word.Word.{Word}
use Rattle.xls_words.specs.declared.word.Word.TheVariants as words

-- ---- one file

-- what a host can't read
pub unread : (finds : Option (List ℕ) → Type 0) (reason : Reason) → (reason ≢ reasons.Memory → finds None) → IsUnread finds (problems.Unread reason)
unread finds reasons.Memory lacks = inl refl
unread finds reasons.Exists lacks = inr (refl, lacks (λ e. cc e))
unread finds (reasons.Reported text) lacks = inr (refl, lacks (λ e. cc e))

-- so nothing was answered
pub not-read : (finds : Option (List ℕ) → Type 0) (command : Command) (reading : Reading) (s : SinkState) (p : Problem)
    → IsUnread finds p → EndsPath finds command reading s s (Err p)
not-read finds command reading s p (inl memory) = inl memory
not-read finds command reading s p (inr (status, lacks)) = inr (inl (status, lacks, (Keeps-refl s.written, refl)))

-- bytes that were read were answered
pub was-answered : (finds : Option (List ℕ) → Type 0) (command : Command) (reading : Reading) (file : List ℕ) (a b : SinkState)
    (r : Result (Unit {0}) Problem) → finds (Some file) → EndsText command reading file a b r → EndsPath finds command reading a b r
was-answered finds command reading file a b (Ok x) found (inl none) = absurd none
was-answered finds command reading file a b (Ok x) found (inr text) = (file, found, text)
was-answered finds command reading file a b (Err p) found (inl memory) = inl memory
was-answered finds command reading file a b (Err p) found (inr text) = inr (inr (file, found, text))

-- ---- the status of a path

-- the status that tells how the work of a path ended
pub has-cause : (finds : Option (List ℕ) → Type 0) (command : Command) (reading : Reading) (a b : SinkState)
    (r : Result (Unit {0}) Problem) → EndsPath finds command reading a b r → HasCause finds command reading a b (status_of_file r)
has-cause finds command reading a b (Ok x) ends = inr (inr (inr (Ok x, ends, refl)))
has-cause finds command reading a b (Err p) (inl memory) = inl memory
has-cause finds command reading a b (Err p) (inr (inl unread)) = inr (inr (inl unread))
has-cause finds command reading a b (Err p) (inr (inr answered)) = inr (inr (inr (Err p, answered, refl)))

-- the same where memory may have run out as it was told
pub told : (finds : Option (List ℕ) → Type 0) (command : Command) (reading : Reading) (a b : SinkState) (p : Problem) (n : ℕ)
    → EndsPath finds command reading a b (Err p) → (n ≡ problem_status p) ⊎ (n ≡ 5) → HasCause finds command reading a b n
told finds command reading a b p n ends (inl is) = subst (HasCause finds command reading a b) (sym is) (has-cause finds command reading a b (Err p) ends)
told finds command reading a b p n ends (inr memory) = inl memory

-- a folder is wanted where no file is found
pub wants-folder : (finds : Option (List ℕ) → Type 0) (command : Command) (reading : Reading) (s : SinkState)
    → finds None → HasCause finds command reading s s 2
wants-folder finds command reading s lacks = inr (inl (refl, lacks, (Keeps-refl s.written, refl)))

-- what may be found later could be found before
pub earlier : (before after : List ℕ → Option (List ℕ) → Type 0) (path : List ℕ) (command : Command) (reading : Reading)
    (a b : SinkState) (n : ℕ) → Stays before after → HasCause (after path) command reading a b n → HasCause (before path) command reading a b n
earlier before after path command reading a b n stays (inl memory) = inl memory
earlier before after path command reading a b n stays (inr (inl (two, lacks, same))) = inr (inl (two, stays path None lacks, same))
earlier before after path command reading a b n stays (inr (inr (inl (ten, lacks, same)))) = inr (inr (inl (ten, stays path None lacks, same)))
earlier before after path command reading a b n stays (inr (inr (inr (result, (file, found, text), is)))) =
    inr (inr (inr (result, (file, stays path (Some file) found, text), is)))

-- ---- one path of many

-- of one path is said what is said of the first of the paths
pub of-one : (finds : List ℕ → Option (List ℕ) → Type 0) (request : Request) (reading : Reading) (a b : SinkState)
    (paths : List (Bor (List ℕ))) (r : Result ℕ Stop)
    → OfPath (finds (get_or paths 0 (record { ref_ptr = (0, 0); now = [] })).now) request reading a b r
    → (path : List ℕ) → map (λ (it : Bor (List ℕ)). it.now) paths ≡ path ∷ [] → OfPath (finds path) request reading a b r
of-one finds request reading a b [] r h path is = absurd (cc is)
of-one finds request reading a b (p ∷ others) r h path is = subst (λ it. OfPath (finds it) request reading a b r) (cc is) h

-- of what a request asks for is said what is said of the job that is made of it
pub of-request : (finds : List ℕ → Option (List ℕ) → Type 0) (a b : SinkState) (asked request : Request) (reading : Reading)
    (paths : List (Bor (List ℕ))) (r : Result ℕ Stop)
    → asked ≡ request → reading ≡ reading_under request.page (is_exact request.command)
    → ((path : List ℕ) → AreNamed (path ∷ []) asked.files → map (λ (it : Bor (List ℕ)). it.now) paths ≡ path ∷ [])
    → ((path : List ℕ) → map (λ (it : Bor (List ℕ)). it.now) paths ≡ path ∷ [] → OfPath (finds path) asked reading a b r)
    → (path : List ℕ) → AreNamed (path ∷ []) request.files
    → OfPath (finds path) request (reading_under request.page (is_exact request.command)) a b r
of-request finds a b asked request reading paths r same under named h path are_named =
    subst (λ (q : Request). OfPath (finds path) q (reading_under q.page (is_exact q.command)) a b r) same
    (subst (λ o. OfPath (finds path) asked o a b r)
    (subst (λ (q : Request). reading ≡ reading_under q.page (is_exact q.command)) (sym same) under)
    (h path (named path (subst (λ (q : Request). AreNamed (path ∷ []) q.files) (sym same) are_named))))

-- a reading by its parts
pub read-so : (reading : Reading) (options : XlsOptions) (passwords : List (List ℕ)) → reading.options ≡ options → reading.passwords ≡ passwords
    → reading ≡ record { options = options; passwords = passwords }
read-so reading options passwords o p =
    subst (λ x. reading ≡ record { options = x; passwords = passwords }) o
    (subst (λ y. reading ≡ record { options = reading.options; passwords = y }) p refl)

-- ---- words without options

-- which ask for readable texts
readable : (word : Word) → is_exact (plain_command word) ≡ false
readable (words.Lines lines) = refl
readable words.Check = refl
readable (words.Beside topic) = refl
readable words.Props = refl
readable words.Vba = refl
readable words.Macros = refl
readable words.Csv = refl
readable words.Remake = refl
readable words.Stream = refl
readable words.Streams = refl

checks : (word : Word) → plain_command word ≡ Check → word ≡ words.Check
checks (words.Lines lines) e = absurd (cc e)
checks words.Check e = refl
checks (words.Beside topic) e = absurd (cc e)
checks words.Props e = absurd (cc e)
checks words.Vba e = absurd (cc e)
checks words.Macros e = absurd (cc e)
checks words.Csv e = absurd (cc e)
checks words.Remake e = absurd (cc e)
checks words.Stream e = absurd (cc e)
checks words.Streams e = absurd (cc e)

-- of these words is said what is said of the request that they are read as
pub of-words : (finds : List ℕ → Option (List ℕ) → Type 0) (a b : SinkState) (word : Word) (path : List ℕ) (request : Request) (r : Result ℕ Stop)
    → IsPlainRequest word (path ∷ []) request → (word ≡ words.Check → finds path None → ⊥)
    → ((path : List ℕ) → AreNamed (path ∷ []) request.files
    → OfPath (finds path) request (reading_under request.page (is_exact request.command)) a b r)
    → HasCause (finds path) (plain_command word) (reading_under None false) a b (status_of_work r)
of-words finds a b word path request r plain other h =
    subst (λ exact. HasCause (finds path) (plain_command word) (reading_under None exact) a b (status_of_work r)) (readable word)
    (subst (λ page. HasCause (finds path) (plain_command word) (reading_under page (is_exact (plain_command word))) a b (status_of_work r))
    plain.page
    (subst (λ command. HasCause (finds path) command (reading_under request.page (is_exact command)) a b (status_of_work r)) plain.command
    (h path plain.files plain.out (λ e lacks. other (checks word (sym plain.command ∙ e)) lacks))))

-- ---- work that is stopped by memory

pub of-memory : (finds : Option (List ℕ) → Type 0) (command : Command) (reading : Reading) (a b : SinkState) (r : Result ℕ Stop)
    → status_of_work r ≡ 5 → HasCause finds command reading a b (status_of_work r)
of-memory finds command reading a b r memory = inl memory
