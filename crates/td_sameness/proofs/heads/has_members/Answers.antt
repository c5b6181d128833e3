use Rattle.std.proofs.Common.{[], map, sym, ◌∙◌}
use Rattle.td_typecode.specs.Kinds.{number_of}
use Rattle.td_typecode.specs.Same.{row, member_entry}
use Rattle.td_sameness.proofs.Counting.{count-entries, not-headed, not-named, by-numbers, members-unlabelled}
use Rattle.td_sameness.proofs.heads.has_members.Goals as goal

pub returns-then-not-is_headed : goal.returns-then-not-is_headed
returns-then-not-is_headed c =
    not-headed (number_of c.args.kind) [] c.args.id.now (row (map member_entry c.args.members.now)) c.args.node.now
    (sym c.if-not-is_headed.true ∙ c.is_headed.ensures)

pub returns-then-not-is_named : goal.returns-then-not-is_named
returns-then-not-is_named c =
    not-named (number_of c.args.kind) [] c.args.id.now (row (map member_entry c.args.members.now)) c.args.node.now _
    (count-entries member_entry c.args.members.now) (sym c.if-not-is_named.true ∙ c.is_named.ensures)

pub returns : goal.returns
returns c =
    by-numbers (number_of c.args.kind) [] c.args.id.now (row (map member_entry c.args.members.now)) c.args.node.now _ _
    (count-entries member_entry c.args.members.now) (sym c.if-not-is_headed.false ∙ c.is_headed.ensures)
    (sym c.if-not-is_named.false ∙ c.is_named.ensures)
    (rw (members-unlabelled c.args.members.now) c.has_none.ensures)
