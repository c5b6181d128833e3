use Rattle.std.proofs.Common.{◌≡◌, ℕ, List, true, false, not, sym, ap, ◌∙◌}
use Rattle.td_cdr.specs.Names.{identifier}
use Rattle.td_cdr.specs.Seen.{has_seen}
use Rattle.td_exceptions.specs.declared.exception.UserException.TheVariants.{DuplicatePropertyName, IllegalPropertyName}
use Rattle.td_types.specs.Repository.{is_among}
use Rattle.td_register.specs.Causes.{raise_if}
use Rattle.td_register.specs.declared.refusal.Fault.TheVariants.{Refused}
use Rattle.td_register.specs.declared.refusal.Refusal.TheVariants.{Raised}
use Rattle.td_register.proofs.InOrder.{met_before, met_first, notes}
use Rattle.td_register.proofs.Otherwise.{neither, not_raised, raises, raises_first, second}
use Rattle.td_register.proofs.properties.check_name.Goals as goal

pub returns-then-not-is_identifier-clause-judged : goal.returns-then-not-is_identifier-clause-judged
returns-then-not-is_identifier-clause-judged c = λ before h.
    let name = c.args.name.now in
    let none : identifier name ≡ false =
    sym (rw c.as_slice.ensures at c.is_identifier.ensures) ∙ c.if-not-is_identifier.true in
    rw (c.raised.ensures, c.in_ok-copy.ensures) (raises_first (not (identifier name)) (IllegalPropertyName name)
    (raise_if (is_among name before) (DuplicatePropertyName name)) (ap not none))

pub returns-then-not-branch-clause-judged : goal.returns-then-not-branch-clause-judged
returns-then-not-branch-clause-judged c = λ before h.
    let name = c.args.name.now in
    let fine : identifier name ≡ true =
    sym (rw c.as_slice.ensures at c.is_identifier.ensures) ∙ c.if-not-is_identifier.false in
    let again : is_among name before ≡ true =
    met_before _ _ _ (c.in_ok-see.ensures.fresh
    ∙ ap not (ap (λ (n : List ℕ). has_seen c.args.seen.now n) c.as_slice-2.ensures)) (h name) c.if-not-branch.true in
    rw (c.raised-then-not-branch.ensures, c.in_ok-copy-2.ensures) (second (raise_if (not (identifier name))
    (IllegalPropertyName name)) (raise_if (is_among name before) (DuplicatePropertyName name))
    (Refused (Raised (DuplicatePropertyName name))) (not_raised (not (identifier name)) (IllegalPropertyName name)
    (ap not fine)) (raises (is_among name before) (DuplicatePropertyName name) again))

pub returns-clause-judged : goal.returns-clause-judged
returns-clause-judged c = λ before h.
    let name = c.args.name.now in
    let fine : identifier name ≡ true =
    sym (rw c.as_slice.ensures at c.is_identifier.ensures) ∙ c.if-not-is_identifier.false in
    let first : is_among name before ≡ false =
    met_first _ _ _ (c.in_ok-see.ensures.fresh
    ∙ ap not (ap (λ (n : List ℕ). has_seen c.args.seen.now n) c.as_slice-2.ensures)) (h name) c.if-not-branch.false in
    neither (raise_if (not (identifier name)) (IllegalPropertyName name)) (raise_if (is_among name before)
    (DuplicatePropertyName name)) (not_raised (not (identifier name)) (IllegalPropertyName name) (ap not fine))
    (not_raised (is_among name before) (DuplicatePropertyName name) first)

pub returns-clause-noted : goal.returns-clause-noted
returns-clause-noted c = λ before h.
    notes c.args.seen.now c.see.new.seen before c.args.name.now h (rw c.as_slice-2.ensures at c.in_ok-see.ensures.added)
