use Rattle.std.proofs.Common.{◌≡◌, ℕ, not, false, List, [], ◌∷◌, ◌++◌, ◌∙◌, ap}
use Rattle.td_types.specs.Repository.{is_among}
use Rattle.td_cdr.specs.Seen.{has_seen}
use Rattle.td_types.proofs.Gathered.{added_once, met_anew}
use Rattle.td_types.proofs.Supers.{met_first}
use Rattle.td_types.proofs.inheriting.meet.Goals as goal

pub returns-in_ok-push : goal.returns-in_ok-push
returns-in_ok-push c = λ h.
    let e : c.push.new.self ≡ c.args.met.now ++ c.args.name.now ∷ [] =
    c.in_ok-push.ensures.ok ∙ ap (λ (n : List ℕ). c.args.met.now ++ n ∷ []) c.in_ok-copy.ensures in
    let first : is_among c.args.name.now c.args.met.now ≡ false =
    met_first _ _ _ (c.in_ok-see.ensures.fresh
    ∙ ap not (ap (λ (n : List ℕ). has_seen c.args.seen.now n) c.as_slice.ensures))
    (h c.args.name.now) c.if-branch.true in (
      added_once c.args.met.now c.push.new.self c.args.name.now first e,
      rw e (met_anew c.args.seen.now c.see.new.seen c.args.met.now c.args.name.now h
          (rw c.as_slice.ensures at c.in_ok-see.ensures.added)),
    )
