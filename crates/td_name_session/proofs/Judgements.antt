-- How a Request is judged.
use Rattle.std.proofs.Common.{◌≡◌, ℕ, Bool, true, false, cond, List, Option, Some, None, Result, Ok, Err, refl, sym, ap}
use Rattle.std.proofs.Common.{subst, ◌∙◌}
use Rattle.std.specs.Prelude.{IfOk, OnErr}
use Rattle.td_cdr.specs.Place.{At}
use Rattle.td_cdr.specs.declared.memory.Memory.{Memory as OutOfMemory}
use Rattle.td_ior.proofs.Keys.{some-is}
use Rattle.td_naming.specs.Views.{View}
use Rattle.td_naming.specs.declared.history.NameChange.{NameChange}
use Rattle.td_ops.specs.declared.outcome.SystemKind.TheVariants.{ObjectNotExist}
use Rattle.td_name_session.specs.Judging.{JudgesOption, judged_body}
use Rattle.td_name_session.specs.Scenes.{IteratorList}
use Rattle.td_name_session.specs.Turns.{FindsKey, FindsLive}
use Rattle.td_name_session.specs.declared.judging.Judged.{Judged}
use Rattle.td_name_session.specs.declared.judging.Judged.TheVariants.{Refused}
use Rattle.td_name_session.specs.declared.keys.NameKey.{NameKey}

-- ---- its object

module _ (others : List NameChange → Type 0) where
  found_by : (v : View) (d : IteratorList) (x k : NameKey) (live : Bool) (operation : List ℕ) (body : At) (u : View)
      → FindsKey others v d (Some x) live u → Some k ≡ cond live (Some x) None
      → JudgesOption others v d (Some x) operation body (judged_body k operation body) u
  found_by v d x k true operation body u finds is = record {
    live = true;
    finds = finds;
    is = ap (λ (y : NameKey). judged_body y operation body) (some-is k x is);
  }
  found_by v d x k false operation body u finds is = absurd cc

  abbrev absent : Option NameKey
  absent = None

  none_by : (k : NameKey) (live : Bool) → Some k ≡ cond live absent absent → ⊥
  none_by k true e = cc
  none_by k false e = cc

  pub found_judges : (v : View) (d : IteratorList) (o : Option NameKey) (k : NameKey) (operation : List ℕ) (body : At) (u : View)
      → FindsLive others v d o (Some k) u
      → JudgesOption others v d o operation body (judged_body k operation body) u
  found_judges v d (Some x) k operation body u f = found_by v d x k f.live operation body u f.finds f.is
  found_judges v d None k operation body u f = absurd (none_by k f.live f.is)

  missed_by : (v : View) (d : IteratorList) (x : NameKey) (live : Bool) (operation : List ℕ) (body : At) (u : View)
      → FindsKey others v d (Some x) live u → absent ≡ cond live (Some x) absent
      → JudgesOption others v d (Some x) operation body (Refused ObjectNotExist 0) u
  missed_by v d x true operation body u finds is = absurd cc
  missed_by v d x false operation body u finds is = record { live = false; finds = finds; is = refl }

  pub missed_judges : (v : View) (d : IteratorList) (o : Option NameKey) (operation : List ℕ) (body : At) (u : View)
      → FindsLive others v d o None u → JudgesOption others v d o operation body (Refused ObjectNotExist 0) u
  missed_judges v d (Some x) operation body u f = missed_by v d x f.live operation body u f.finds f.is
  missed_judges v d None operation body u f = (refl, f.finds.1)

  -- the call of a live object is read, or memory runs out to read it
  pub call_judges : (v : View) (d : IteratorList) (o : Option NameKey) (k : NameKey) (operation : List ℕ) (body : At) (u : View)
      (r : Result Judged OutOfMemory) → FindsLive others v d o (Some k) u → IfOk r (λ j. j ≡ judged_body k operation body)
      → IfOk r (λ j. JudgesOption others v d o operation body j u)
  call_judges v d o k operation body u (Ok j) f e =
      subst (λ (x : Judged). JudgesOption others v d o operation body x u) (sym e)
      (found_judges v d o k operation body u f)
  call_judges v d o k operation body u (Err m) f e = tt

  pub call_unread : (v : View) (d : IteratorList) (o : Option NameKey) (k : NameKey) (operation : List ℕ) (body : At) (u : View)
      (r : Result Judged OutOfMemory) → FindsLive others v d o (Some k) u
      → OnErr r ((j : Judged) × JudgesOption others v d o operation body j u)
  call_unread v d o k operation body u (Ok j) f = tt
  call_unread v d o k operation body u (Err m) f = (judged_body k operation body, found_judges v d o k operation body u f)

  pub none_judges : (v : View) (d : IteratorList) (o : Option NameKey) (operation : List ℕ) (body : At) (u : View) (j : Judged)
      → j ≡ Refused ObjectNotExist 0 → FindsLive others v d o None u → JudgesOption others v d o operation body j u
  none_judges v d o operation body u j e f =
      subst (λ (x : Judged). JudgesOption others v d o operation body x u) (sym e)
      (missed_judges v d o operation body u f)

  -- ---- whether a key's object is live

  abbrev has : Option NameKey → Bool
  has None = false
  has (Some x) = true

  key_by : (v : View) (d : IteratorList) (o : Option NameKey) (live : Bool) (u : View) → FindsKey others v d o live u
      → has (cond live o None) ≡ live
  key_by v d None live u f = flat live f.0
    where
      flat : (b : Bool) → b ≡ false → has (cond b None None) ≡ b
      flat true e = absurd cc
      flat false e = refl
  key_by v d (Some x) true u f = refl
  key_by v d (Some x) false u f = refl

  found_key : (v : View) (d : IteratorList) (o found : Option NameKey) (u : View) → FindsLive others v d o found u
      → FindsKey others v d o (has found) u
  found_key v d o found u f =
      subst (λ (b : Bool). FindsKey others v d o b u) (sym (ap has f.is ∙ key_by v d o f.live u f.finds)) f.finds

  pub found_live : (v : View) (d : IteratorList) (o : Option NameKey) (k : NameKey) (u : View) → FindsLive others v d o (Some k) u
      → FindsKey others v d o true u
  found_live v d o k u f = found_key v d o (Some k) u f

  pub missed_live : (v : View) (d : IteratorList) (o : Option NameKey) (u : View) → FindsLive others v d o None u
      → FindsKey others v d o false u
  missed_live v d o u f = found_key v d o None u f
