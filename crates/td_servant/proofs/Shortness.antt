-- Accepted changes have short replies.
use Rattle.std.proofs.Common.{◌≡◌, ℕ, ◌+◌, ◌≤◌, List, length, refl, sym, ap, subst, arith}
use Rattle.std.proofs.lemmas.Bool.{le-leb}
use Rattle.std.proofs.lemmas.Fmt.{length-decimal-le}
use Rattle.std.specs.Fmt.{decimal}
use Rattle.std.specs.Prelude.{IsTrue}
use Rattle.td_cdr.specs.Marks.{Marks}
use Rattle.td_changes.proofs.Refusing.{done}
use Rattle.td_changes.proofs.Steps.{Keeps, accepted_counted, added, fewer, history_keeps, linked, renewed, set, typed}
use Rattle.td_changes.specs.Applying.{acceptance, count_change}
use Rattle.td_changes.specs.Histories.{after_all}
use Rattle.td_ops.specs.Outcomes.{is_short, short_length}
use Rattle.td_ops.specs.declared.call.Change.{Change}
use Rattle.td_ops.specs.declared.call.Change.TheVariants as change
use Rattle.td_ops.specs.declared.outcome.Outcome.TheVariants.{Done}
use Rattle.td_ops.specs.declared.outcome.Reply.{Reply}
use Rattle.td_ops.specs.declared.outcome.Reply.TheVariants as reply
use Rattle.td_register.specs.Ids.{id_of}
use Rattle.td_register.specs.Registers.{last_number}
use Rattle.td_register.specs.Stores.{Store}
use Rattle.td_register.specs.declared.history.Accepted.{Accepted}
use Rattle.td_trader.specs.PlainTraders.{HasShortReplies}
use Rattle.td_trader.specs.Worlds.{AdmittedIn, View}
use Rattle.td_servant.specs.Laws.{AcceptedAreShort, ChangesAreShort}

-- ---- the store behind a change

short_step : Keeps HasShortReplies
short_step s _ (added o is room) h =
    let left = room.left in
    record { stem = h.stem; last_offer = omega (arith, is, left) }
short_step s _ (fewer test) h = record { stem = h.stem; last_offer = h.last_offer }
short_step s _ (renewed o ps held fits) h = record { stem = h.stem; last_offer = h.last_offer }
short_step s _ (linked ls) h = record { stem = h.stem; last_offer = h.last_offer }
short_step s _ (set a stem) h = record { stem = stem h.stem; last_offer = h.last_offer }
short_step s _ (typed r) h = record { stem = h.stem; last_offer = h.last_offer }

-- ---- the reply of an accepted change

id_short : (n : ℕ) → n ≤ last_number → IsTrue (is_short (Done (reply.Id (id_of (n + 1)))))
id_short n h =
    let digits : length (decimal (n + 1)) ≤ 10 =
    length-decimal-le 10 (n + 1) (omega arith) (omega (arith, h)) (omega (arith, h)) in
    le-leb (length (decimal (n + 1))) 64 (omega (arith, digits))

acceptance_short : (s : Store) (c : Change) → HasShortReplies s → IsTrue (is_short (Done (acceptance s c)))
acceptance_short s (change.Export object type_name ps) h = id_short s.last_offer h.last_offer
acceptance_short s (change.ExportProxy target type_name ps if_match_all recipe policies) h =
    id_short s.last_offer h.last_offer
acceptance_short s (change.SetRequestIdStem v) h = le-leb (length s.attributes.request_id_stem) short_length h.stem
acceptance_short s _ h = refl

pub short : AcceptedAreShort
short bounds opening history c content h e =
    let s = after_all opening history in
    let a = done s (count_change bounds (length history) s c) content e in
    subst (λ (r : Reply). IsTrue (is_short (Done r)))
    (accepted_counted bounds (length history) s c content a.after a.is).reply
    (acceptance_short s c (history_keeps HasShortReplies short_step opening history h))

-- ---- a group

pub group_short : (others : List Accepted → Type 0) (later : Marks → Marks → Type 0) → ChangesAreShort others later
group_short others later w u k c content e admitted r =
    let seen = r.changes.seen in
    let m = r.changes.meanwhile in
    let opening : seen.opening ≡ m.view.opening = ap (λ (v : View). v.opening) m.seen_is in
    let before : HasShortReplies m.view.opening = subst AdmittedIn m.is admitted in
    let opens : HasShortReplies seen.opening = subst (λ (s : Store). HasShortReplies s) (sym opening) before in
    short seen.bounds seen.opening seen.history c content opens (sym r.changes.outcome)
