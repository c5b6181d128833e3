use Rattle.std.proofs.Common.{◌≡◌, ℕ, not, false, true, sym, ◌∙◌, ap, List, Bor, map, reverse, take}
use Rattle.std.proofs.lemmas.Result.{err_from_is_err_and}
use Rattle.td_types.specs.Interfaces.{interface_conforms}
use Rattle.td_types.specs.Judged.{AreBases}
use Rattle.td_types.specs.Kept.{repository}
use Rattle.td_types.specs.Repository.{is_among}
use Rattle.td_cdr.specs.Seen.{has_seen}
use Rattle.td_types.specs.Sought.{find_entry}
use Rattle.td_types.specs.declared.entry.TypeEntry.{TypeEntry}
use Rattle.td_types.proofs.Found.{found_named}
use Rattle.td_types.proofs.Supers.{refuses, stops, goes_on, sees, finds, super_refused, super_twice, super_mismatch}
use Rattle.td_types.proofs.Supers.{super_fine, met_before, met_first}
use Rattle.td_types.proofs.bases.bases_of.Goals as goal

pub returns-in_err-base : goal.returns-in_err-base
returns-in_err-base c =
    let p = err_from_is_err_and c.from_residual.result c.from_residual.ensures.1 in
    rw (p.1, p.2) (refuses {X = List (Bor TypeEntry)}
    (λ (bases : List (Bor TypeEntry)).
    AreBases c.args.entries.now c.args.supers.now (map (λ (b : Bor TypeEntry). b.now) bases))
    _ (find_entry c.args.entries.now c.base_name-item.result) c.in_err-base.field-0.0
    (λ f h. stops (repository c.args.entries.now c.args.interfaces.now 0) c.args.name.now c.args.if_name.now
    c.args.supers.now c.loop-base_name.base_name-index c.base_name-item.result f _ c.loop-base_name-test.true
    c.base_name-item.is
    (super_refused c.args.entries.now c.args.interfaces.now c.args.name.now c.args.if_name.now
    (reverse (take c.loop-base_name.base_name-index c.args.supers.now)) c.base_name-item.result f h)
    c.loop-base_name.invariant.so_far)
    c.in_err-base.ensures)

pub returns-then-not-branch : goal.returns-then-not-branch
returns-then-not-branch c =
    let met : is_among c.base_name-item.result (reverse (take c.loop-base_name.base_name-index c.args.supers.now))
    ≡ true =
    met_before _ _ _ (c.in_ok-see.ensures.fresh
    ∙ ap not (ap (λ (n : List ℕ). has_seen c.loop-base_name.seen n) c.as_slice.ensures))
    (c.loop-base_name.invariant.seen c.base_name-item.result) c.if-not-branch.true in
    rw c.in_ok-copy.ensures (stops (repository c.args.entries.now c.args.interfaces.now 0) c.args.name.now
    c.args.if_name.now c.args.supers.now c.loop-base_name.base_name-index c.base_name-item.result _ _
    c.loop-base_name-test.true c.base_name-item.is
    (super_twice c.args.entries.now c.args.interfaces.now c.args.name.now c.args.if_name.now
    (reverse (take c.loop-base_name.base_name-index c.args.supers.now)) c.base_name-item.result
    c.in_ok-base.base.now c.in_ok-base.ensures met)
    c.loop-base_name.invariant.so_far)

pub returns-then-not-conforms : goal.returns-then-not-conforms
returns-then-not-conforms c =
    let met : is_among c.base_name-item.result (reverse (take c.loop-base_name.base_name-index c.args.supers.now))
    ≡ false =
    met_first _ _ _ (c.in_ok-see.ensures.fresh
    ∙ ap not (ap (λ (n : List ℕ). has_seen c.loop-base_name.seen n) c.as_slice.ensures))
    (c.loop-base_name.invariant.seen c.base_name-item.result) c.if-not-branch.false in
    let no_way : interface_conforms c.args.interfaces.now c.args.if_name.now c.in_ok-base.base.now.service_type.if_name
    ≡ false =
    sym (rw (c.as_slice-in-loop-base_name.ensures, c.as_slice-in-loop-base_name-2.ensures) at
    c.if-not-conforms.ensures) in
    rw c.in_ok-mismatch.ensures
    (stops (repository c.args.entries.now c.args.interfaces.now 0) c.args.name.now c.args.if_name.now
    c.args.supers.now c.loop-base_name.base_name-index c.base_name-item.result _ _ c.loop-base_name-test.true
    c.base_name-item.is
    (super_mismatch c.args.entries.now c.args.interfaces.now c.args.name.now c.args.if_name.now
    (reverse (take c.loop-base_name.base_name-index c.args.supers.now)) c.base_name-item.result
    c.in_ok-base.base.now c.in_ok-base.ensures met no_way)
    c.loop-base_name.invariant.so_far)

pub loop-base_name-preserved : goal.loop-base_name-preserved
loop-base_name-preserved c =
    let met : is_among c.base_name-item.result (reverse (take c.loop-base_name.base_name-index c.args.supers.now))
    ≡ false =
    met_first _ _ _ (c.in_ok-see.ensures.fresh
    ∙ ap not (ap (λ (n : List ℕ). has_seen c.loop-base_name.seen n) c.as_slice.ensures))
    (c.loop-base_name.invariant.seen c.base_name-item.result) c.if-not-branch.false in
    let good : interface_conforms c.args.interfaces.now c.args.if_name.now c.in_ok-base.base.now.service_type.if_name
    ≡ true =
    sym (rw (c.as_slice-in-loop-base_name.ensures, c.as_slice-in-loop-base_name-2.ensures) at
    c.if-not-conforms.ensures) in
    record {
      seen =
          sees c.loop-base_name.seen c.see.new.seen c.args.supers.now c.loop-base_name.base_name-index
          c.base_name-item.result c.loop-base_name-test.true c.base_name-item.is c.loop-base_name.invariant.seen
          (rw c.as_slice.ensures at c.in_ok-see.ensures.added);
      found =
          finds c.args.entries.now c.args.supers.now c.loop-base_name.base_name-index c.base_name-item.result
          c.loop-base_name.bases c.push.new.self c.in_ok-base.base c.loop-base_name-test.true c.base_name-item.is
          (found_named c.args.entries.now c.base_name-item.result c.in_ok-base.base.now c.in_ok-base.ensures)
          c.loop-base_name.invariant.found c.in_ok-push.ensures.ok;
      so_far =
          goes_on (repository c.args.entries.now c.args.interfaces.now 0) c.args.name.now c.args.if_name.now
          c.args.supers.now c.loop-base_name.base_name-index c.base_name-item.result _ c.loop-base_name-test.true
          c.base_name-item.is
          (super_fine c.args.entries.now c.args.interfaces.now c.args.name.now c.args.if_name.now
          (reverse (take c.loop-base_name.base_name-index c.args.supers.now)) c.base_name-item.result
          c.in_ok-base.base.now c.in_ok-base.ensures met good)
          c.loop-base_name.invariant.so_far;
    }
