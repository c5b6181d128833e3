use Rattle.std.proofs.Common.{[], ◌∷◌, map, sym, ◌∙◌}
use Rattle.td_typecode.specs.declared.kinds.CodeKind.TheVariants as kind
use Rattle.td_typecode.specs.Kinds.{number_of}
use Rattle.td_typecode.specs.Same.{row, arm_entry}
use Rattle.td_sameness.proofs.Counting.{count-entries, not-headed, not-named, by-numbers}
use Rattle.td_sameness.proofs.heads.has_arms.Goals as goal

pub returns-then-not-is_headed : goal.returns-then-not-is_headed
returns-then-not-is_headed c =
    not-headed (number_of kind.Union) (c.args.default.now ∷ []) c.args.id.now (row (map arm_entry c.args.arms.now))
    c.args.node.now (sym c.if-not-is_headed.true ∙ c.is_headed.ensures)

pub returns-then-not-is_named : goal.returns-then-not-is_named
returns-then-not-is_named c =
    not-named (number_of kind.Union) (c.args.default.now ∷ []) c.args.id.now (row (map arm_entry c.args.arms.now))
    c.args.node.now _ (count-entries arm_entry c.args.arms.now) (sym c.if-not-is_named.true ∙ c.is_named.ensures)

pub returns : goal.returns
returns c =
    by-numbers (number_of kind.Union) (c.args.default.now ∷ []) c.args.id.now (row (map arm_entry c.args.arms.now))
    c.args.node.now _ _ (count-entries arm_entry c.args.arms.now) (sym c.if-not-is_headed.false ∙ c.is_headed.ensures)
    (sym c.if-not-is_named.false ∙ c.is_named.ensures) c.has_labels.ensures
