-- Which limits the answers of visits have.
use Rattle.std.proofs.Common.{ℕ, ◌≤◌, Bool, true, false, if◌then◌else◌, List, [], ◌∷◌, ◌++◌, length, codes, Option}
use Rattle.std.proofs.Common.{Result, Ok, Err, IfOk, refl, sym, subst, arith, length-append}
use Rattle.std.specs.List.{AllByRecursion}
use Rattle.td_cdr.specs.Marks.{Marks}
use Rattle.td_cdr.specs.declared.memory.Memory.{Memory as OutOfMemory}
use Rattle.td_typecode.specs.declared.reference.Ior.{Ior}
use Rattle.td_fed.specs.Visiting.{WalksTo}
use Rattle.td_iter.specs.Heads.{AreLimits, IsLimit, hop_count, link_follow_rule, match_card, return_card, search_card}
use Rattle.td_lookup.specs.Answering.{HasLimits}
use Rattle.td_ops.specs.declared.call.Query.{Query}
use Rattle.td_register.specs.declared.history.Accepted.{Accepted}
use Rattle.td_store.specs.declared.local.Local.{Local}
use Rattle.td_trader.specs.Worlds.{View}
use Rattle.td_walk.specs.Answers.{AnswersGathered, IsAnswer, is_limit, limit, limits_applied}
use Rattle.td_walk.specs.Visits.{AnswersRead, visit_of}
use Rattle.td_walk.specs.declared.answer.StepAnswer.{StepAnswer}
use Rattle.td_walk.specs.declared.answer.SubAnswer.{SubAnswer}
use Rattle.td_walk.specs.declared.gathering.Gathered.{Gathered}
use Rattle.td_walk.specs.declared.trace.Address.{Address}
use Rattle.td_walk.specs.declared.trace.TraceItem.{TraceItem}
use Rattle.td_walk.specs.declared.trace.Visit.{Visit}
use Rattle.td_query_walk.specs.Walks.{WalkState, Start, Walk, asking, refused, repeat}

-- ---- limits

-- at most one, and that a limit
record IsOne (names : List (List ℕ)) : Type 0 where
  few : length names ≤ 1
  each : AllByRecursion IsLimit names

if_one : (name : List ℕ) → IsLimit name → (b : Bool) → IsOne (if b then name ∷ [] else [])
if_one name h true = record { few = omega arith; each = (h, tt) }
if_one name h false = record { few = omega arith; each = tt }

one_limit : (over : List (List ℕ)) (given : List SubAnswer) (name : List ℕ) → IsLimit name
    → IsOne (limit over given name)
one_limit over given name h = if_one name h (is_limit over given name)

each_of : (xs ys : List (List ℕ)) → AllByRecursion IsLimit xs → AllByRecursion IsLimit ys
    → AllByRecursion IsLimit (xs ++ ys)
each_of [] ys h k = k
each_of (x ∷ xs) ys h k = (h.0, each_of xs ys h.1 k)

five : (a b c d e : List (List ℕ)) → IsOne a → IsOne b → IsOne c → IsOne d → IsOne e
    → AreLimits (a ++ b ++ c ++ d ++ e)
five a b c d e ha hb hc hd he = record {
  few = omega (
    arith,
    ha.few,
    hb.few,
    hc.few,
    hd.few,
    he.few,
    length-append a b,
    length-append (a ++ b) c,
    length-append (a ++ b ++ c) d,
    length-append (a ++ b ++ c ++ d) e,
  );
  each =
      each_of (a ++ b ++ c ++ d) e
      (each_of (a ++ b ++ c) d (each_of (a ++ b) c (each_of a b ha.each hb.each) hc.each) hd.each) he.each;
}

limits_are : (over : List (List ℕ)) (given : List SubAnswer) → AreLimits (limits_applied over given)
limits_are over given =
    five (limit over given (codes "hop_count")) (limit over given (codes "link_follow_rule"))
    (limit over given (codes "match_card")) (limit over given (codes "return_card"))
    (limit over given (codes "search_card")) (one_limit over given (codes "hop_count") (hop_count refl))
    (one_limit over given (codes "link_follow_rule") (link_follow_rule refl))
    (one_limit over given (codes "match_card") (match_card refl))
    (one_limit over given (codes "return_card") (return_card refl))
    (one_limit over given (codes "search_card") (search_card refl))

-- ---- answers

gathered : (l : Local) (r : AnswersRead Gathered) (word : ℕ → ℕ) (a : SubAnswer) → AnswersGathered l r word a
    → AreLimits a.limits
gathered l (Ok r) word a h = subst AreLimits (sym h.limits) (limits_are l.effective.over r.0.given)
gathered l (Err question) word a h = absurd h

pub answer_limits : (l : Local) (answers : List StepAnswer) (word : ℕ → ℕ) (a : SubAnswer) → IsAnswer l answers word a
    → AreLimits a.limits
unfolding IsAnswer
answer_limits l answers word a h = gathered l (visit_of l answers) word a h

-- ---- walks

pub walk_limits : {World : Type 0} {Begins : World → (trader : ℕ) → Query → Start → World → Type 0}
    {inside : World → (target : Ior) → Option ℕ} {s : WalkState World} {k : ℕ} {q : Query} {t : List TraceItem}
    {v : Visit} {u : WalkState World} → Walk Begins inside s k q t v u → HasLimits v
walk_limits (refused b) = tt
walk_limits (repeat b) = record { few = omega arith; each = tt }
walk_limits (asking {l = l} {answers = answers} {m = m} {a = a} b o steps ends) =
    answer_limits l answers m.words a ends.answer

pub visited_limits : (others : List Accepted → Type 0) (later : Marks → Marks → Type 0) (home : Address)
    (s u : WalkState (List View)) (k : ℕ) (q : Query) (before after : List TraceItem) (r : Result Visit OutOfMemory)
    → IfOk r (λ v. WalksTo others later home s k q before after v u) → IfOk r HasLimits
visited_limits others later home s u k q before after (Ok v) h = walk_limits h.walk
visited_limits others later home s u k q before after (Err m) h = tt
