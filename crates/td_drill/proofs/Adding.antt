-- Walks one after the other, and what they come to.
use Rattle.std.proofs.Common.{◌≡◌, ℕ, suc, ◌+◌, List, [], ◌++◌, length, map, Result, Ok, Err, IfOk}
use Rattle.std.proofs.Common.{sym, ap, subst, ◌∙◌, arith}
use Rattle.std.proofs.Math.Path.{fun_ext}
use Rattle.std.proofs.lemmas.List.{length-map}
use Rattle.td_fed.specs.Visiting.{WalksTo, course}
use Rattle.td_ops.specs.declared.call.Query.{Query}
use Rattle.td_out.specs.RandomWords.{StreamSeed}
use Rattle.td_trader.specs.PlainTraders.{PlainTrader}
use Rattle.td_trader.specs.Solos.{no_changes, solo_view, same_marks}
use Rattle.td_trader.specs.Worlds.{View}
use Rattle.td_walk.specs.Peering.{Exchange}
use Rattle.td_walk.specs.declared.trace.Address.{Address}
use Rattle.td_walk.specs.declared.trace.TraceItem.{TraceItem}
use Rattle.td_walk.specs.declared.trace.Visit.{Visit}
use Rattle.td_query_walk.specs.Walks.{WalkState}
use Rattle.td_drill.specs.Drills.{DrillsAll, WalksFromTrader, DrillsFirst, Drills, drill_query, more, none, offers_in}
use Rattle.td_drill.specs.Lines.{drill_line}
use Rattle.td_drill.specs.Tallies.{no_walk, tally_of, together}
use Rattle.td_drill.specs.declared.tally.Tally.{Tally}

-- ---- one walk

-- the items that came are those of the new trace, which is counted as it is seen
comes-of : (home : Address) (q : Query) (s : WalkState (List View)) (k : ℕ) (t : Tally) (u : WalkState (List View))
    (before after seen : List TraceItem) (v : Visit) → before ≡ []
    → WalksTo no_changes same_marks home s k q before after v u → seen ≡ after → t ≡ tally_of seen v
    → WalksFromTrader home q s k t u
comes-of home q s k t u before after seen v new visited counted is =
    let same : after ≡ visited.items = visited.notes ∙ ap (λ (x : List TraceItem). x ++ visited.items) new in
    record {
      items = visited.items;
      visit = v;
      walk = visited.walk;
      tally = is ∙ ap (λ (x : List TraceItem). tally_of x v) (counted ∙ same);
    }

pub comes-so : {E : Type 0} (home : Address) (q : Query) (s : WalkState (List View)) (k : ℕ) (u : WalkState (List View))
    (before after seen : List TraceItem) (v : Visit) (r : Result Tally E) → before ≡ []
    → WalksTo no_changes same_marks home s k q before after v u → seen ≡ after → IfOk r (λ t. t ≡ tally_of seen v)
    → IfOk r (λ t. WalksFromTrader home q s k t u)
comes-so home q s k u before after seen v (Ok t) new visited counted is =
    comes-of home q s k t u before after seen v new visited counted is
comes-so home q s k u before after seen v (Err e) new visited counted is = tt

-- ---- one after the other

pub drilled-none : (home : Address) (q : Query) (s : WalkState (List View)) (t : Tally) → t ≡ no_walk
    → DrillsFirst home q s 0 t s
drilled-none home q s t is = subst (λ (x : Tally). DrillsFirst home q s 0 x s) (sym is) none

pub drilled-more : (home : Address) (q : Query) (s m u : WalkState (List View)) (k : ℕ) (t one sum : Tally)
    → DrillsFirst home q s k t m → WalksFromTrader home q m k one u → sum ≡ together t one → DrillsFirst home q s (k + 1) sum u
drilled-more home q s m u k t one sum so_far comes is =
    let whole : DrillsFirst home q s (suc k) (together t one) u = more k t one m u so_far comes in
    let number : suc k ≡ k + 1 = omega arith in
    subst (λ (n : ℕ). DrillsFirst home q s n sum u) number
    (subst (λ (x : Tally). DrillsFirst home q s (suc k) x u) (sym is) whole)

-- ---- all of them

pub asks-all : {E : Type 0} (words : ℕ → ℕ) (home : Address) (ts : List PlainTrader) (q : Query) (calls : List Exchange)
    (count : ℕ) (u : WalkState (List View)) (r : Result Tally E) → q ≡ drill_query → calls ≡ []
    → count ≡ length (map solo_view ts)
    → IfOk r (λ t. DrillsFirst home q (course (map solo_view ts) words calls) count t u)
    → IfOk r (λ t. DrillsAll words home ts t)
asks-all words home ts q calls count u (Ok t) asked quiet many h = record {
  later = u;
  drilled =
      subst (λ (n : ℕ). DrillsFirst home drill_query (course (map solo_view ts) words []) n t u)
      (many ∙ length-map ts solo_view)
      (subst (λ (x : Query). DrillsFirst home x (course (map solo_view ts) words []) count t u) asked
      (subst (λ (c : List Exchange). DrillsFirst home q (course (map solo_view ts) words c) count t u) quiet h));
}
asks-all words home ts q calls count u (Err e) asked quiet many h = tt

pub drills : {E : Type 0} (words : ℕ → ℕ) (home : Address) (ts : List PlainTrader) (traders offers : ℕ) (tally : Tally)
    (r : Result (List ℕ) E) → traders ≡ length ts → offers ≡ offers_in ts → DrillsAll words home ts tally
    → IfOk r (λ line. line ≡ drill_line traders offers tally) → IfOk r (λ line. Drills words home ts line)
drills words home ts traders offers tally (Ok line) many has asks content = record {
  tally = tally;
  asks = asks;
  content = content
      ∙ (ap (λ (n : ℕ). drill_line n offers tally) many ∙ ap (λ (n : ℕ). drill_line (length ts) n tally) has);
}
drills words home ts traders offers tally (Err e) many has asks content = tt

-- ---- the words after a seeding

pub drills-after : {E : Type 0} (after : StreamSeed → ℕ → ℕ) (words : ℕ → ℕ) (key seed : List ℕ) (home : Address)
    (ts : List PlainTrader) (r : Result (List ℕ) E) → key ≡ seed
    → ((k : ℕ) → words k ≡ after (record { key = key; stream = 0 }) k)
    → IfOk r (λ line. Drills words home ts line)
    → IfOk r (λ line. Drills (after (record { key = seed; stream = 0 })) home ts line)
drills-after after words key seed home ts r same seeded h =
    let all : words ≡ after (record { key = seed; stream = 0 }) =
    fun_ext (λ k. seeded k ∙ ap (λ (x : List ℕ). after (record { key = x; stream = 0 }) k) same) in
    subst (λ (w : ℕ → ℕ). IfOk r (λ line. Drills w home ts line)) all h
