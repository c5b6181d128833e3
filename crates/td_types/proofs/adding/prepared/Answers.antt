use Rattle.std.proofs.Common.{◌<◌, ◌≤◌, subst, List, length, arith, Bor}
use Rattle.std.proofs.lemmas.Result.{err_from_is_err_and}
use Rattle.td_types.proofs.Prepares.{Ready, failed, refused, many_types, last_given, many_properties, prepares}
use Rattle.td_types.proofs.Redefined.{entries_of}
use Rattle.td_types.specs.Adding.{most_types}
use Rattle.td_types.specs.Inheriting.{IsMore}
use Rattle.td_types.specs.Judged.{AreBases, inherited_properties}
use Rattle.td_types.specs.Properties.{with_inherited}
use Rattle.td_types.specs.declared.entry.TypeEntry.{TypeEntry}
use Rattle.td_types.proofs.adding.prepared.Goals as goal

pub returns-in_err-bases : goal.returns-in_err-bases
returns-in_err-bases c =
    let p = err_from_is_err_and c.from_residual.result c.from_residual.ensures.1 in
    rw (p.1, p.2) (refused {X = List (Bor TypeEntry)}
    (λ (bases : List (Bor TypeEntry)). AreBases c.args.entries.now c.as_slice-2.result.now (entries_of bases))
    c.args.entries.now c.args.interfaces.now c.args.last c.args.name c.args.if_name
    c.args.props c.as_slice.result.now c.args.supers c.as_slice-2.result.now c.in_err-bases.field-0.0 c.as_slice.ensures
    c.as_slice-2.ensures c.in_err-bases.ensures)

pub returns-then-len-ge-MOST_TYPES : goal.returns-then-len-ge-MOST_TYPES
returns-then-len-ge-MOST_TYPES c =
    let k : Ready c.args.entries.now c.args.interfaces.now c.args.last c.args.name c.args.if_name c.args.props
    c.args.supers (entries_of c.in_ok-bases.bases) =
    (record {
      valid = c.requires;
      fault = rw (c.as_slice.ensures, c.as_slice-2.ensures) at c.in_ok-bases.ensures.0;
      bases = rw c.as_slice-2.ensures at c.in_ok-bases.ensures.1;
    }) in
    let many : most_types ≤ length c.args.entries.now = omega (arith, c.if-len-ge-MOST_TYPES.true) in
    many_types c.args.entries.now c.args.interfaces.now c.args.last c.args.name c.args.if_name c.args.props
    c.args.supers (entries_of c.in_ok-bases.bases) k many

pub returns-then-last-ge-LAST_INCARNATION : goal.returns-then-last-ge-LAST_INCARNATION
returns-then-last-ge-LAST_INCARNATION c =
    let k : Ready c.args.entries.now c.args.interfaces.now c.args.last c.args.name c.args.if_name c.args.props
    c.args.supers (entries_of c.in_ok-bases.bases) =
    (record {
      valid = c.requires;
      fault = rw (c.as_slice.ensures, c.as_slice-2.ensures) at c.in_ok-bases.ensures.0;
      bases = rw c.as_slice-2.ensures at c.in_ok-bases.ensures.1;
    }) in
    last_given c.args.entries.now c.args.interfaces.now c.args.last c.args.name c.args.if_name c.args.props
    c.args.supers (entries_of c.in_ok-bases.bases) k c.if-last-ge-LAST_INCARNATION.true

pub returns-in_err-full : goal.returns-in_err-full
returns-in_err-full c =
    let k : Ready c.args.entries.now c.args.interfaces.now c.args.last c.args.name c.args.if_name c.args.props
    c.args.supers (entries_of c.in_ok-bases.bases) =
    (record {
      valid = c.requires;
      fault = rw (c.as_slice.ensures, c.as_slice-2.ensures) at c.in_ok-bases.ensures.0;
      bases = rw c.as_slice-2.ensures at c.in_ok-bases.ensures.1;
    }) in
    let p = err_from_is_err_and c.from_residual-in_err-full.result c.from_residual-in_err-full.ensures.1 in
    rw (p.1, p.2) (many_properties c.args.entries.now c.args.interfaces.now c.args.last c.args.name c.args.if_name
    c.args.props c.args.supers (entries_of c.in_ok-bases.bases) c.in_err-full.field-0.0 k
    (subst (λ (bases : List (Bor TypeEntry)).
    IsMore (with_inherited c.args.props (inherited_properties (entries_of bases))) (failed c.in_err-full.field-0.0))
    c.as_slice-3.ensures c.in_err-full.ensures))

pub returns : goal.returns
returns c =
    let k : Ready c.args.entries.now c.args.interfaces.now c.args.last c.args.name c.args.if_name c.args.props
    c.args.supers (entries_of c.in_ok-bases.bases) =
    (record {
      valid = c.requires;
      fault = rw (c.as_slice.ensures, c.as_slice-2.ensures) at c.in_ok-bases.ensures.0;
      bases = rw c.as_slice-2.ensures at c.in_ok-bases.ensures.1;
    }) in
    let few : length c.args.entries.now < most_types = omega (arith, c.if-len-ge-MOST_TYPES.false) in
    let full = rw c.as_slice-3.ensures at c.in_ok-full.ensures in
    prepares c.args.entries.now c.args.interfaces.now c.args.last c.args.name c.args.if_name c.args.props c.args.supers
    (entries_of c.in_ok-bases.bases) c.in_ok-full.full c.in_ok-above.above k few c.if-last-ge-LAST_INCARNATION.false
    full.0 full.1 (rw c.as_slice-4.ensures at c.in_ok-above.ensures) c.measured.result c.measured.ensures
