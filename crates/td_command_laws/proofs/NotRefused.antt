-- A drill is refused nowhere.
use Rattle.std.proofs.Common.{◌≡◌, ℕ, zero, suc, ◌<◌, ◌≤◌, nat_eq, nat_lt, Bool, true, false, ◌&&◌, if◌then◌else◌}
use Rattle.std.proofs.Common.{List, [], ◌∷◌, length}
use Rattle.std.proofs.Common.{Option, Some, None, Ok, Err, option_map, refl, sym, ap, subst, ◌∙◌, ◌⊎◌, inl, inr, arith}
use Rattle.std.proofs.lemmas.Bool.{eqb-false, ltb-true}
use Rattle.std.specs.List.{AllByRecursion}
use Rattle.std.specs.Str.{bytes_eq}
use Rattle.td_cdr.specs.Format.{value_named}
use Rattle.td_command.specs.Commands.{Command, Drill, Make, Pipe, Check, command_by, command_in, command_of, count_of}
use Rattle.td_command.specs.Commands.{from_one, two_words, verb_name, verb_named, verbs}
use Rattle.td_command.specs.Printing.{DrillsWith, PrintsOf, SinkSeen}
use Rattle.td_command.specs.Runs.{Obeys, RunsServer, WordsBySeeding, Shelves}
use Rattle.td_command.specs.Status.{status_of}
use Rattle.td_command.specs.declared.ended.Ended.{Ended}
use Rattle.td_command.specs.declared.ended.Ended.TheVariants.{Usage, Missing, TooLong, Refused, Memory, Printed}
use Rattle.td_command.specs.declared.ended.Ended.TheVariants.{PrintFault, Served}
use Rattle.td_file.specs.Files.{Opening, opening_of}
use Rattle.td_ior.specs.Keys.{◌>>=◌}
use Rattle.td_ior.specs.Number.{number_after, number_below, numeral}
use Rattle.td_lines.specs.Steps.{refusal}
use Rattle.td_lines.specs.declared.cause.LineCause.{LineCause}
use Rattle.td_make.specs.Generated.{generated_file}
use Rattle.td_make_file_laws.specs.Opened.{GeneratedOpen, GeneratedOpens}
use Rattle.td_stream.specs.Outside.{Outside}

-- ---- the number of a drill's traders is from 1 to 64

from-one : (v n : ℕ) (none : Bool) → nat_eq v 0 ≡ none → (if none then None else Some v) ≡ Some n → v < 65
    → (1 ≤ n) × (n ≤ 64)
from-one v n true e h less = absurd cc
from-one v n false e h less =
    let same : v ≡ n = cc in
    let some : v ≡ 0 → ⊥ = eqb-false v 0 e in
    (at-least v n same some, omega (arith, same, less))
  where
    at-least : (v n : ℕ) → v ≡ n → (v ≡ 0 → ⊥) → 1 ≤ n
    at-least zero n same some = absurd (some refl)
    at-least (suc v) n same some = omega (arith, same)

below : (v n : ℕ) (less : Bool) → nat_lt v 65 ≡ less
    → ((if less then Some v else None) >>= from_one) ≡ Some n → (1 ≤ n) × (n ≤ 64)
below v n true e h = from-one v n (nat_eq v 0) refl h (ltb-true v 65 e)
below v n false e h = absurd cc

in-digits : (digits : Bool) (v n : ℕ)
    → ((if digits && nat_lt v 65 then Some v else None) >>= from_one) ≡ Some n → (1 ≤ n) × (n ≤ 64)
in-digits true v n h = below v n (nat_lt v 65) refl h
in-digits false v n h = absurd cc

counts : (word : List ℕ) (n : ℕ) → count_of word ≡ Some n → (1 ≤ n) × (n ≤ 64)
unfolding number_below
counts word n h = in-digits (numeral word) (number_after 0 word) n h

drill-count : (o : Option ℕ) (count : ℕ) → option_map Drill o ≡ Some (Drill count) → o ≡ Some count
drill-count None count h = absurd cc
drill-count (Some n) count h = cc

not-make : (o : Option ℕ) (count : ℕ) → option_map Make o ≡ Some (Drill count) → ⊥
not-make None count h = cc
not-make (Some n) count h = cc

-- what holds where none has the name, and of each one that may have it, holds of the one that has it
chosen : {K : Type 0} (test : Bool) (k : K) (rest : Option K) (P : Option K → Type 0) → P (Some k) → P rest
    → P (if test then Some k else rest)
chosen true k rest P this that = this
chosen false k rest P this that = that

named-by : {K : Type 0} (name_of : K → List ℕ) (ks : List K) (word : List ℕ) (P : Option K → Type 0) → P None
    → AllByRecursion (λ k. P (Some k)) ks → P (value_named name_of ks word)
named-by name_of [] word P none each = none
named-by name_of (k ∷ ks) word P none each =
    chosen (bytes_eq word (name_of k)) k (value_named name_of ks word) P each.0
    (named-by name_of ks word P none each.1)

not-none : (count : ℕ) → None ≡ Some (Drill count) → ⊥
not-none count h = cc

not-pipe : (operand : List ℕ) (count : ℕ) → Some (Pipe operand) ≡ Some (Drill count) → ⊥
not-pipe operand count h = cc

not-check : (operand : List ℕ) (count : ℕ) → Some (Check operand) ≡ Some (Drill count) → ⊥
not-check operand count h = cc

by-word : (word operand : List ℕ) (count : ℕ) → command_by (verb_named word) operand ≡ Some (Drill count)
    → (1 ≤ count) × (count ≤ 64)
by-word word operand count =
    named-by verb_name verbs word (λ v. command_by v operand ≡ Some (Drill count) → (1 ≤ count) × (count ≤ 64))
    (λ h. absurd (not-none count h)) (
      (λ h. absurd (not-pipe operand count h)),
      (
        (λ h. absurd (not-check operand count h)),
        (
          (λ h. absurd (not-make (count_of operand) count h)),
          ((λ h. counts operand count (drill-count (count_of operand) count h)), tt),
        ),
      ),
    )

in-range : (words : List (List ℕ)) (count : ℕ) → command_of words ≡ Some (Drill count) → (1 ≤ count) × (count ≤ 64)
in-range words count h = by_words (two_words words) h
  where
    by_words : (o : Option (List ℕ × List ℕ)) → command_in o ≡ Some (Drill count) → (1 ≤ count) × (count ≤ 64)
    by_words None h = absurd (not-none count h)
    by_words (Some w) h = by-word w.0 w.1 count h

-- ---- how it ends

refused : (count n : ℕ) (cause : LineCause) → GeneratedOpens count → opening_of (generated_file count) ≡ Err (refusal n cause) → ⊥
refused count n cause o h =
    let opened : opening_of (generated_file count) ≡ Ok o.opening = o.opened in
    cc

ends : (count : ℕ) (seeded : WordsBySeeding) (ended : Ended) (before after : SinkSeen) → GeneratedOpens count
    → PrintsOf (DrillsWith seeded) (generated_file count) ended before after
    → (status_of ended ≡ 0) ⊎ ((status_of ended ≡ 7) ⊎ (status_of ended ≡ 9))
ends count seeded Printed before after o h = inl refl
ends count seeded PrintFault before after o h = inr (inl refl)
ends count seeded Memory before after o h = inr (inr refl)
ends count seeded (Refused n cause) before after o h = absurd (refused count n cause o h.0)
ends count seeded TooLong before after o h = absurd (omega (arith, h.0, o.short))
ends count seeded Usage before after o h = absurd h
ends count seeded Missing before after o h = absurd h
ends count seeded (Served end) before after o h = absurd h

pub drill-ends : GeneratedOpen → (words : List (List ℕ)) (texts : Shelves) (seeded : WordsBySeeding) (before after : Outside)
    (written0 written1 : Option (List ℕ)) (faults0 faults1 status count : ℕ)
    → RunsServer words texts seeded before after written0 written1 faults0 faults1 status
    → command_of words ≡ Some (Drill count)
    → (status ≡ 0) ⊎ ((status ≡ 7) ⊎ (status ≡ 9))
drill-ends law words texts seeded before after written0 written1 faults0 faults1 status count r is =
    let range = in-range words count is in
    let obeys : Obeys (Some (Drill count)) texts seeded r.ended before after =
    subst (λ (c : Option Command). Obeys c texts seeded r.ended before after) is r.obeys in
    subst (λ (n : ℕ). (n ≡ 0) ⊎ ((n ≡ 7) ⊎ (n ≡ 9))) (sym r.answered)
    (ends count seeded r.ended _ _ (law count range.0 range.1) obeys.0)
