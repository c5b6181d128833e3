-- A run over messages to a server answers 0 or 9.
use Rattle.std.proofs.Common.{◌≡◌, ℕ, ◌<◌, List, length, Some, Ok, Err, IsSomeAnd, refl}
use Rattle.std.proofs.Common.{sym, ap, subst, ◌∙◌, inl, inr, arith}
use Rattle.td_file.specs.Files.{Opening, opening_of}
use Rattle.td_lines.specs.Steps.{refusal}
use Rattle.td_lines.specs.declared.cause.LineCause.{LineCause}
use Rattle.td_out.specs.declared.fault.TextFault.TheVariants as fault
use Rattle.td_out.specs.Texts.{HasText, longest_text}
use Rattle.td_stream.specs.declared.end.End.{End}
use Rattle.td_stream.specs.Completeness.{IsServable, NoneFailed}
use Rattle.td_stream.specs.Outside.{Outside}
use Rattle.td_trader.specs.Solos.{no_changes, same_marks}
use Rattle.td_session.proofs.Complete.{complete}
use Rattle.td_command.specs.declared.ended.Ended.{Ended}
use Rattle.td_command.specs.declared.ended.Ended.TheVariants.{Usage, Missing, TooLong, Refused, Memory, Printed}
use Rattle.td_command.specs.declared.ended.Ended.TheVariants.{PrintFault, Served}
use Rattle.td_command.specs.Commands.{Pipe, command_of}
use Rattle.td_command.specs.Completeness.{NamesOpening, NothingFailed, IsAnswered, Completes}
use Rattle.td_command.specs.Runs.{WordsBySeeding, Shelves, ServesOpening, ServesText, ServesFile, Obeys, first_scene}
use Rattle.td_command.specs.Status.{status_of, end_status}

some_same : (a b : List ℕ) → Some a ≡ Some b → a ≡ b
some_same a b e = cc

ok_same : (a b : Opening) (text : List ℕ) → opening_of text ≡ Ok a → opening_of text ≡ Ok b → a ≡ b
ok_same a b text e f = cc

no_both : (a : Opening) (n : ℕ) (why : LineCause) (text : List ℕ) → opening_of text ≡ Ok a
    → opening_of text ≡ Err (refusal n why) → ⊥
no_both a n why text e f = cc

-- the text that is given is the one of that name
given_text : (words : List (List ℕ)) (texts : Shelves) (o : Opening) (n : NamesOpening words texts o)
    (other : List ℕ)
    → HasText texts.content n.name texts.before texts.after (Ok other) → other ≡ n.text
given_text words texts o n other has =
    let there : HasText (Some n.shelf) n.name texts.before texts.after (Ok other) =
    subst (λ o. HasText o n.name texts.before texts.after (Ok other)) n.content has in
    some_same other n.text (sym there.1 ∙ n.found)

-- and it isn't too long
short_text : (words : List (List ℕ)) (texts : Shelves) (o : Opening) (n : NamesOpening words texts o)
    → HasText texts.content n.name texts.before texts.after (Err fault.TooLong) → ⊥
short_text words texts o n has =
    let there : HasText (Some n.shelf) n.name texts.before texts.after (Err fault.TooLong) =
    subst (λ o. HasText o n.name texts.before texts.after (Err fault.TooLong)) n.content has in
    let long : longest_text < length n.text = subst (λ o. IsSomeAnd o (λ t. longest_text < length t)) n.found there in
    omega (arith, long, n.size)

session_answered : (o : Opening) (seeded : WordsBySeeding) (end : End) (before after : Outside) (stream : List ℕ)
    (messages : List (List ℕ))
    → ServesOpening o seeded end before after → before.left ≡ Some stream → IsServable stream messages
    → NoneFailed before after → IsAnswered o seeded before after messages (end_status end)
session_answered o seeded end before after stream messages s input servable unhurt =
    elim (complete no_changes same_marks o.home (first_scene o seeded) s.later s.journal end before after s.serves stream
    messages input servable unhurt) [
      | inl closed ↦ inl (ap end_status closed.0, s.later, closed.1)
      | inr memory ↦ inr (ap end_status memory)
    ]

text_answered : (o : Opening) (seeded : WordsBySeeding) (text : List ℕ) (ended : Ended) (before after : Outside)
    (stream : List ℕ) (messages : List (List ℕ))
    → opening_of text ≡ Ok o → ServesText text seeded ended before after → before.left ≡ Some stream
    → IsServable stream messages → NoneFailed before after → IsAnswered o seeded before after messages (status_of ended)
text_answered o seeded text (Served end) before after stream messages accepted h input servable unhurt =
    let same = ok_same h.0 o text h.1 accepted in
    let serves : ServesOpening o seeded end before after =
    subst (λ (x : Opening). ServesOpening x seeded end before after) same h.3 in
    session_answered o seeded end before after stream messages serves input servable unhurt
text_answered o seeded text (Refused number why) before after stream messages accepted h input servable unhurt =
    absurd (no_both o number why text accepted h.0)
text_answered o seeded text Memory before after stream messages accepted h input servable unhurt = inr refl
text_answered o seeded text Usage before after stream messages accepted h input servable unhurt = absurd h
text_answered o seeded text Missing before after stream messages accepted h input servable unhurt = absurd h
text_answered o seeded text TooLong before after stream messages accepted h input servable unhurt = absurd h
text_answered o seeded text Printed before after stream messages accepted h input servable unhurt = absurd h
text_answered o seeded text PrintFault before after stream messages accepted h input servable unhurt = absurd h

of_text : (o : Opening) (seeded : WordsBySeeding) (text other : List ℕ) (ended : Ended) (before after : Outside)
    (stream : List ℕ) (messages : List (List ℕ))
    → opening_of text ≡ Ok o → other ≡ text → ServesText other seeded ended before after → before.left ≡ Some stream
    → IsServable stream messages → NoneFailed before after → IsAnswered o seeded before after messages (status_of ended)
of_text o seeded text other ended before after stream messages accepted same h =
    text_answered o seeded text ended before after stream messages accepted
    (subst (λ (t : List ℕ). ServesText t seeded ended before after) same h)

file_answered : (words : List (List ℕ)) (texts : Shelves) (seeded : WordsBySeeding) (o : Opening)
    (n : NamesOpening words texts o) (ended : Ended) (before after : Outside) (stream : List ℕ)
    (messages : List (List ℕ))
    → ServesFile texts n.name seeded ended before after → before.left ≡ Some stream → IsServable stream messages
    → NothingFailed texts before after → IsAnswered o seeded before after messages (status_of ended)
file_answered words texts seeded o n (Served end) before after stream messages h input servable unhurt =
    of_text o seeded n.text h.0 (Served end) before after stream messages n.accepted
    (given_text words texts o n h.0 h.1) h.2 input servable unhurt.session
file_answered words texts seeded o n (Refused number why) before after stream messages h input servable unhurt =
    of_text o seeded n.text h.0 (Refused number why) before after stream messages n.accepted
    (given_text words texts o n h.0 h.1) h.2 input servable unhurt.session
file_answered words texts seeded o n Missing before after stream messages h input servable unhurt =
    absurd (unhurt.files h.0)
file_answered words texts seeded o n TooLong before after stream messages h input servable unhurt =
    absurd (short_text words texts o n h.0)
file_answered words texts seeded o n Memory before after stream messages h input servable unhurt = inr refl
file_answered words texts seeded o n Usage before after stream messages h input servable unhurt = absurd h
file_answered words texts seeded o n Printed before after stream messages h input servable unhurt = absurd h
file_answered words texts seeded o n PrintFault before after stream messages h input servable unhurt = absurd h

pub answered : (words : List (List ℕ)) (texts : Shelves) (seeded : WordsBySeeding) (ended : Ended) (before after : Outside)
    (status : ℕ)
    → status ≡ status_of ended → Obeys (command_of words) texts seeded ended before after
    → Completes words texts seeded before after status
answered words texts seeded ended before after status e obeys o stream messages n input servable unhurt =
    let h : Obeys (Some (Pipe n.name)) texts seeded ended before after =
    subst (λ f. Obeys f texts seeded ended before after) n.command obeys in
    subst (λ (k : ℕ). IsAnswered o seeded before after messages k) (sym e)
    (file_answered words texts seeded o n ended before after stream messages h.0 input servable unhurt)
