-- The loop of a walk through a group: what was done since it began.
use Rattle.std.proofs.Common.{◌≡◌, ℕ, ◌<◌, List, [], ◌∷◌, length, None, Some, sym, ap, subst, arith}
use Rattle.td_cdr.specs.Marks.{Marks}
use Rattle.td_fed.proofs.Beginnings.{entered-begins, entered-so-far, turned-so-far}
use Rattle.td_fed.proofs.Measures.{measure_all, most}
use Rattle.td_fed.proofs.Moving.{draws-after, draws-none, goes-after, goes-none}
use Rattle.td_fed.proofs.Opening.{entered-read, is-begun}
use Rattle.td_fed.proofs.Showing.{shown-none, shown-on}
use Rattle.td_fed.proofs.Turned.{AllRead, Walking, ended-at-once, first-open, last, less-left, none-left}
use Rattle.td_fed.proofs.Turned.{still-read, turned}
use Rattle.td_fed.specs.Entering.{IsEntered, IsEnteredSoFar}
use Rattle.td_targets.specs.Targets.{inside_group}
use Rattle.td_fed.specs.Trails.{DrawsOn, Goes, IsShown}
use Rattle.td_fed.specs.Turning.{IsWalkTurn, IsTurnSoFar}
use Rattle.td_fed.specs.Visiting.{BeginsVisit, WalksTo, VisitedSoFar, course}
use Rattle.td_fed.specs.declared.entering.VisitStart.{VisitStart}
use Rattle.td_fed.specs.declared.entering.VisitStart.TheVariants as entry
use Rattle.td_ops.specs.declared.call.Query.{Query}
use Rattle.td_register.specs.declared.history.Accepted.{Accepted}
use Rattle.td_trader.specs.Worlds.{View, Watches}
use Rattle.td_visit.specs.Standing.{FrameState as Frame}
use Rattle.td_walk.specs.Peering.{Exchange}
use Rattle.td_walk.specs.declared.trace.Address.{Address}
use Rattle.td_walk.specs.declared.trace.TraceItem.{TraceItem}
use Rattle.td_walk.specs.declared.trace.Visit.{Visit}
use Rattle.td_query_walk.specs.Reach.{HasReadPath}

module _ (others : List Accepted → Type 0) (later : Marks → Marks → Type 0) (home : Address) where
  -- The loop began with these traders, words, calls, items and open visits, and has come to those.
  pub record Going (w0 : List View) (words0 : ℕ → ℕ) (calls0 : List Exchange) (notes0 : List TraceItem)
      (stack0 : List Frame) (w : List View) (words : ℕ → ℕ) (calls : List Exchange) (notes : List TraceItem)
      (stack : List Frame) : Type 0 where
    pub shown : IsShown w0 calls0 notes0 notes w calls
    pub goes : Goes others later w0 w
    pub draws : DrawsOn words0 words
    pub read : AllRead stack
    pub some_left : 0 < length stack
    pub walking : (v : List View) (k : ℕ) (q : Query) (first : Frame) (before : List TraceItem) → stack0 ≡ first ∷ []
        → IsEntered (BeginsVisit others later) v k q (entry.Open first) before notes0 w0
        → Walking (BeginsVisit others later) (inside_group home) (course v words0 calls0) k q stack (course w words calls)
        before notes

  pub going-first : (w : List View) (words : ℕ → ℕ) (calls : List Exchange) (notes : List TraceItem)
      (stack : List Frame) (first : Frame) → stack ≡ first ∷ [] → HasReadPath first.local
      → Going w words calls notes stack w words calls notes stack
  going-first w words calls notes stack first is read = record {
    shown = shown-none w calls notes;
    goes = goes-none others later w;
    draws = draws-none words;
    read = subst AllRead (sym is) (read, tt);
    some_left = let n = ap (λ (fs : List Frame). length fs) is in omega (arith, n);
    walking = λ v k q f before one h.
        first-open (BeginsVisit others later) (inside_group home) (course v words calls) w k q f stack before notes one h;
  }

  module _ (w0 : List View) (words0 : ℕ → ℕ) (calls0 : List Exchange) (notes0 : List TraceItem) (stack0 : List Frame)
      (w : List View) (words : ℕ → ℕ) (calls : List Exchange) (notes : List TraceItem) (stack : List Frame)
      (going : Going w0 words0 calls0 notes0 stack0 w words calls notes stack)
      (u : List View) (words1 : ℕ → ℕ) (calls1 : List Exchange) (notes1 : List TraceItem) (after : List Frame) where
    pub shown-further : IsShown w calls notes notes1 u calls1 → IsShown w0 calls0 notes0 notes1 u calls1
    shown-further shown = shown-on w0 w u calls0 calls calls1 notes0 notes notes1 going.shown shown

    pub goes-further : IsWalkTurn (BeginsVisit others later) (inside_group home) (course w words calls) stack None after notes
        notes1 (course u words1 calls1) → IsShown w calls notes notes1 u calls1 → Goes others later w u
        → DrawsOn words words1 → Going w0 words0 calls0 notes0 stack0 u words1 calls1 notes1 after
    goes-further t shown goes draws = record {
      shown = shown-further shown;
      goes = goes-after others later w0 w u going.goes goes;
      draws = draws-after words0 words words1 going.draws draws;
      read = still-read (BeginsVisit others later) (inside_group home) (is-begun others later) stack after t.items
          (course w words calls) (course u words1 calls1) t.turns going.read;
      some_left = none-left (BeginsVisit others later) (inside_group home) stack after t.items (course w words calls)
          (course u words1 calls1) t.turns;
      walking = λ v k q first before one h.
          turned (BeginsVisit others later) (inside_group home) (course v words0 calls0) (course w words calls)
          (course u words1 calls1) k q stack after before notes notes1 (going.walking v k q first before one h) t;
    }

    pub is-less : IsWalkTurn (BeginsVisit others later) (inside_group home) (course w words calls) stack None after notes notes1
        (course u words1 calls1) → measure_all most after < measure_all most stack
    is-less t =
        less-left (BeginsVisit others later) (inside_group home) (is-begun others later) stack after t.items
        (course w words calls) (course u words1 calls1) t.turns going.read

    pub is-visited : (visit : Visit) (v : List View) (k : ℕ) (q : Query) (first : Frame) (before : List TraceItem)
        → IsWalkTurn (BeginsVisit others later) (inside_group home) (course w words calls) stack (Some visit) after notes notes1
        (course u words1 calls1) → stack0 ≡ first ∷ []
        → IsEntered (BeginsVisit others later) v k q (entry.Open first) before notes0 w0
        → WalksTo others later home (course v words0 calls0) k q before notes1 visit (course u words1 calls1)
    is-visited visit v k q first before t one h =
        let x = last (BeginsVisit others later) (inside_group home) (course v words0 calls0) (course w words calls)
        (course u words1 calls1) k q stack after before notes notes1 visit (going.walking v k q first before one h) t in
        record { items = x.items; notes = x.notes; walk = x.walk }

    pub visited-so-far : (v : List View) (k : ℕ) (q : Query) (first : Frame) (before : List TraceItem)
        → IsTurnSoFar (BeginsVisit others later) (Watches others later) (inside_group home) (course w words calls) stack
        notes notes1 (course u words1 calls1) → stack0 ≡ first ∷ []
        → IsEntered (BeginsVisit others later) v k q (entry.Open first) before notes0 w0
        → VisitedSoFar others later home (course v words0 calls0) k q before notes1 (course u words1 calls1)
    visited-so-far v k q first before t one h =
        let x = turned-so-far (BeginsVisit others later) (Watches others later) (inside_group home) (course v words0 calls0)
        (course w words calls) (course u words1 calls1) k q stack before notes notes1
        (going.walking v k q first before one h) t in
        record { items = x.items; notes = x.notes; walk = x.walk }

  -- an entry was made, whatever it is
  pub begun-so-far : (w u : List View) (words : ℕ → ℕ) (calls : List Exchange) (k : ℕ) (q : Query) (e : VisitStart)
      (before now : List TraceItem) → IsEntered (BeginsVisit others later) w k q e before now u
      → VisitedSoFar others later home (course w words calls) k q before now (course u words calls)
  begun-so-far w u words calls k q e before now h =
      let x = entered-begins (BeginsVisit others later) (Watches others later) (inside_group home) (course w words calls) u
      k q e before now h in
      record { items = x.items; notes = x.notes; walk = x.walk }

  -- none was
  pub unbegun-so-far : (w u : List View) (words : ℕ → ℕ) (calls : List Exchange) (k : ℕ) (q : Query)
      (before now : List TraceItem) → IsEnteredSoFar (BeginsVisit others later) (Watches others later) w k q before now u
      → VisitedSoFar others later home (course w words calls) k q before now (course u words calls)
  unbegun-so-far w u words calls k q before now h =
      let x = entered-so-far (BeginsVisit others later) (Watches others later) (inside_group home) (course w words calls) u
      k q before now h in
      record { items = x.items; notes = x.notes; walk = x.walk }

  -- a visit that asked nothing
  pub at-once : (w u : List View) (words : ℕ → ℕ) (calls : List Exchange) (k : ℕ) (q : Query) (v : Visit)
      (before now : List TraceItem) → IsEntered (BeginsVisit others later) w k q (entry.Ended v) before now u
      → WalksTo others later home (course w words calls) k q before now v (course u words calls)
  at-once w u words calls k q v before now h =
      let x = ended-at-once (BeginsVisit others later) (inside_group home) (course w words calls) u k q v before now h in
      record { items = x.items; notes = x.notes; walk = x.walk }

  pub first-read : (w u : List View) (k : ℕ) (q : Query) (f : Frame) (x y : List TraceItem)
      → IsEntered (BeginsVisit others later) w k q (entry.Open f) x y u → HasReadPath f.local
  first-read w u k q f x y h = entered-read others later w u k q f x y h
