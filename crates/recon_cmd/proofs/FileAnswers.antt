-- The answers to a file, by what it is read as.
--
-- A file that is there and is read so has the answers to that (opened). So an answer rejects the file or is one to its content:
-- known_cases if the bytes are given, file_cases if not. Two answers to one file reject it with the same line, or are answers to
-- the same content (content_one, file_one).
use Rattle.std.proofs.Common.{◌≡◌, ◌↔◌, ◌⊎◌, inl, inr, ℕ, ◌≤◌, ◌<◌, Bool, true, false, cond, List, length, Option, Some, None, Result, Ok, Err, nat_le}
use Rattle.std.proofs.Common.{IsSomeAnd, refl, sym, ap, subst, ◌∙◌}
use Rattle.std.proofs.lemmas.Bool.{le-leb, lt-leb, leb-true}
use Rattle.host.specs.State.{Files}
use Rattle.scan_rows.specs.Shown.{Shown}
use Rattle.scan.specs.declared.refusal.ScanRefusal.{ScanRefusal}
use Rattle.command_run.specs.Answers.{Answer, file_limit, invalid}
use Rattle.command_run.specs.declared.status.Status.TheVariants.{Refused}
use Rattle.recon_cmd.specs.Answers.{ToContent, ToFile, or_line, read_as, scan_within, up_to}
use Rattle.recon_cmd.specs.Options.{Options}
use Rattle.recon_cmd.specs.Refusals.{refusal_line, too_long_scan_line}

-- ---- what the bytes of a file are read as
-- what a file is read as, if there is a line for its error
abbrev pub Found : Type 0 → Type 0
Found V = Result V (Option (List ℕ))

-- bytes that are not too many are read
pub up_to_short : {V : Type 0} (limit : ℕ) (line : List ℕ) (read : List ℕ → Found V) (bytes : List ℕ) → length bytes ≤ limit
    → up_to limit line read bytes ≡ read bytes
up_to_short limit line read bytes within =
    ap (λ (b : Bool). cond b (read bytes) (Err (Some line))) (le-leb (length bytes) limit within)

-- and others are rejected with this line
pub up_to_long : {V : Type 0} (limit : ℕ) (line : List ℕ) (read : List ℕ → Found V) (bytes : List ℕ) → limit < length bytes
    → up_to limit line read bytes ≡ Err (Some line)
up_to_long limit line read bytes longer =
    ap (λ (b : Bool). cond b (read bytes) (Err (Some line))) (lt-leb (length bytes) limit longer)

-- bytes that have a content are not too many
pub up_to_ok : {V : Type 0} (limit : ℕ) (line : List ℕ) (read : List ℕ → Found V) (bytes : List ℕ) (content : V)
    → up_to limit line read bytes ≡ Ok content → (length bytes ≤ limit) × (read bytes ≡ Ok content)
up_to_ok {V} limit line read bytes content is = by (nat_le (length bytes) limit) refl is
  where
    by : (b : Bool) → nat_le (length bytes) limit ≡ b → cond b (read bytes) (Err (Some line)) ≡ Ok content
        → (length bytes ≤ limit) × (read bytes ≡ Ok content)
    by true short is = (leb-true (length bytes) limit short, is)
    by false long is = cc

-- a content has no error
pub or_line_ok : {V E : Type 0} (line_of : E → Option (List ℕ)) (read : Result V E) (content : V)
    → or_line line_of read ≡ Ok content → read ≡ Ok content
or_line_ok line_of (Ok found) content is = cc
or_line_ok line_of (Err why) content is = cc

-- a file that is too long, or has an error
pub file_rejected : {V E : Type 0} (line : List ℕ) (line_of : E → Option (List ℕ)) (read : List ℕ → Result V E) (bytes : List ℕ)
    → (file_limit < length bytes) ⊎ ((why : E) × (read bytes ≡ Err why))
    → (said : Option (List ℕ)) × (up_to file_limit line (λ b. or_line line_of (read b)) bytes ≡ Err said)
file_rejected line line_of read bytes (inl longer) =
    (Some line, up_to_long file_limit line (λ b. or_line line_of (read b)) bytes longer)
file_rejected {V} {E} line line_of read bytes (inr (why, refused)) = by (nat_le (length bytes) file_limit)
  where
    by : (b : Bool) → (said : Option (List ℕ)) × (cond b (or_line line_of (read bytes)) (Err (Some line)) ≡ Err said)
    by true = (line_of why, ap (or_line line_of) refused)
    by false = (Some line, refl)

-- a scan within the limit
pub scan_accepted : (limit : ℕ) (options : Options) (bytes : List ℕ) (scan : Shown) → length bytes ≤ limit
    → read_as options bytes ≡ Ok scan → scan_within limit options bytes ≡ Ok scan
scan_accepted limit options bytes scan within read =
    up_to_short limit too_long_scan_line (λ b. or_line refusal_line (read_as options b)) bytes within ∙ ap (or_line refusal_line) read

pub scan_found : (limit : ℕ) (options : Options) (bytes : List ℕ) (scan : Shown) → scan_within limit options bytes ≡ Ok scan
    → (length bytes ≤ limit) × (read_as options bytes ≡ Ok scan)
scan_found limit options bytes scan is =
    let read = up_to_ok limit too_long_scan_line (λ b. or_line refusal_line (read_as options b)) bytes scan is in
    (read.0, or_line_ok refusal_line (read_as options bytes) scan read.1)

-- a file that is too long, or no scan
abbrev pub WhyUnread : Options → (bytes : List ℕ) → Type 0
WhyUnread options bytes = (file_limit < length bytes) ⊎ ((why : ScanRefusal) × (read_as options bytes ≡ Err why))

pub scan_rejected : (options : Options) (bytes : List ℕ) → WhyUnread options bytes
    → (line : Option (List ℕ)) × (scan_within file_limit options bytes ≡ Err line)
scan_rejected options bytes why = file_rejected too_long_scan_line refusal_line (read_as options) bytes why

-- ---- the answers to it
-- the named file is there, and is read so
pub opened : {V : Type 0} (reads : ℕ) (name : List ℕ) (read : List ℕ → Found V) (A : List ℕ → V → Answer → Type 0)
    (files : Files) (bytes : List ℕ) (found : Found V) (answer : Answer) → files name ≡ Some bytes → read bytes ≡ found
    → ToFile reads name read A files answer ↔ ToContent reads (A bytes) found answer
opened {V} reads name read A files bytes found answer has is = (there is, back is)
  where
    To : Found V → Type 0
    To r = ToContent reads (A bytes) r answer

    In : Option (List ℕ) → Type 0
    In o = IsSomeAnd o (λ b. ToContent reads (A b) (read b) answer)

    there : read bytes ≡ found → ToFile reads name read A files answer → To found
    there is answers = subst To is (subst In has answers)

    back : read bytes ≡ found → To found → ToFile reads name read A files answer
    back is answers = subst In (sym has) (subst To (sym is) answers)

-- an answer rejects the file, or is one to its content
pub content_cases : {V : Type 0} (reads : ℕ) (A : V → Answer → Type 0) (found : Found V) (answer : Answer) (P : Type 0)
    → ((line : List ℕ) → found ≡ Err (Some line) → answer ≡ invalid reads line → P)
    → ((content : V) → found ≡ Ok content → A content answer → P) → ToContent reads A found answer → P
content_cases reads A (Ok content) answer P rejects decides is = decides content refl is
content_cases reads A (Err None) answer P rejects decides is = absurd is
content_cases reads A (Err (Some line)) answer P rejects decides is = rejects line refl is

-- the same if the file has these bytes
pub known_cases : {V : Type 0} (reads : ℕ) (name : List ℕ) (read : List ℕ → Found V) (A : List ℕ → V → Answer → Type 0)
    (files : Files) (bytes : List ℕ) (answer : Answer) (P : Type 0) → files name ≡ Some bytes
    → ((line : List ℕ) → read bytes ≡ Err (Some line) → answer ≡ invalid reads line → P)
    → ((content : V) → read bytes ≡ Ok content → A bytes content answer → P) → ToFile reads name read A files answer → P
known_cases reads name read A files bytes answer P has rejects decides is =
    content_cases reads (A bytes) (read bytes) answer P rejects decides
    ((opened reads name read A files bytes (read bytes) answer has refl).0 is)

-- and whichever bytes it has
pub file_cases : {V : Type 0} (reads : ℕ) (name : List ℕ) (read : List ℕ → Found V) (A : List ℕ → V → Answer → Type 0)
    (files : Files) (answer : Answer) (P : Type 0)
    → ((bytes line : List ℕ) → files name ≡ Some bytes → read bytes ≡ Err (Some line) → answer ≡ invalid reads line → P)
    → ((bytes : List ℕ) (content : V) → files name ≡ Some bytes → read bytes ≡ Ok content → A bytes content answer → P)
    → ToFile reads name read A files answer → P
file_cases {V} reads name read A files answer P rejects decides is = by (files name) refl is
  where
    by : (found : Option (List ℕ)) → files name ≡ found → IsSomeAnd found (λ b. ToContent reads (A b) (read b) answer) → P
    by None has is = absurd is
    by (Some bytes) has is =
        content_cases reads (A bytes) (read bytes) answer P (λ line. rejects bytes line has)
        (λ content. decides bytes content has) is

-- if each answer to the content is one of others, so is each to the file
pub file_map : {V : Type 0} (reads : ℕ) (name : List ℕ) (read : List ℕ → Found V) (A B : List ℕ → V → Answer → Type 0)
    (files : Files) (answer : Answer) → ((bytes : List ℕ) (content : V) → A bytes content answer → B bytes content answer)
    → ToFile reads name read A files answer → ToFile reads name read B files answer
file_map reads name read A B files answer each =
    file_cases reads name read A files answer (ToFile reads name read B files answer)
    (λ bytes line has so. (opened reads name read B files bytes (Err (Some line)) answer has so).1)
    (λ bytes content has so is. (opened reads name read B files bytes (Ok content) answer has so).1 (each bytes content is))

-- a file that is rejected has answers of one status
pub rejected : {V : Type 0} (reads : ℕ) (name : List ℕ) (read : List ℕ → Found V) (A : List ℕ → V → Answer → Type 0)
    (files : Files) (bytes : List ℕ) (line : Option (List ℕ)) (answer : Answer) → files name ≡ Some bytes → read bytes ≡ Err line
    → ToFile reads name read A files answer → answer.status ≡ Refused
rejected reads name read A files bytes line answer has is =
    known_cases reads name read A files bytes answer (answer.status ≡ Refused) has
    (λ text so same. ap (λ (a : Answer). a.status) same) (λ content so decided. absurd (cc (is, so)))

-- ---- two answers
pub content_one : {V : Type 0} (reads : ℕ) (A B : V → Answer → Type 0) (Same : Answer → Answer → Type 0) (found : Found V)
    (answer other : Answer) → (answer ≡ other → Same answer other)
    → ((content : V) → A content answer → B content other → Same answer other)
    → ToContent reads A found answer → ToContent reads B found other → Same answer other
content_one reads A B Same (Ok content) answer other equal each a b = each content a b
content_one reads A B Same (Err None) answer other equal each a b = absurd a
content_one reads A B Same (Err (Some line)) answer other equal each a b = equal (a ∙ sym b)

pub file_one : {V : Type 0} (reads : ℕ) (name : List ℕ) (read : List ℕ → Found V) (A B : List ℕ → V → Answer → Type 0)
    (Same : Answer → Answer → Type 0) (files : Files) (answer other : Answer) → (answer ≡ other → Same answer other)
    → ((bytes : List ℕ) (content : V) → A bytes content answer → B bytes content other → Same answer other)
    → ToFile reads name read A files answer → ToFile reads name read B files other → Same answer other
file_one {V} reads name read A B Same files answer other equal each = by (files name)
  where
    by : (found : Option (List ℕ)) → IsSomeAnd found (λ b. ToContent reads (A b) (read b) answer)
        → IsSomeAnd found (λ b. ToContent reads (B b) (read b) other) → Same answer other
    by None a b = absurd a
    by (Some bytes) a b = content_one reads (A bytes) (B bytes) Same (read bytes) answer other equal (each bytes) a b
