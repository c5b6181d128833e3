use Rattle.std.proofs.Common.{true, false}
use Rattle.td_types.proofs.Judging.{word_from, remove_illegal, judged_unknown, judged_accepted, judged_sub}
use Rattle.td_types.proofs.types.Types.judge_remove.Goals as goal

pub returns-then-not-is_word_name : goal.returns-then-not-is_word_name
returns-then-not-is_word_name c =
    remove_illegal c.args.self.now c.args.name.now
    (word_from c.as_slice.result.now c.args.name.now c.is_word_name.result false c.as_slice.ensures
    c.is_word_name.ensures c.if-not-is_word_name.true)

pub returns-then-is_none : goal.returns-then-is_none
returns-then-is_none c =
    judged_unknown c.self.inside.entries c.self.inside.interfaces c.self.inside.last c.args.name.now
    c.as_slice-2.result.now c.get.result c.is_none.result c.args.self.now c.self.view_is
    (word_from c.as_slice.result.now c.args.name.now c.is_word_name.result true c.as_slice.ensures
    c.is_word_name.ensures c.if-not-is_word_name.false)
    c.as_slice-2.ensures c.get.ensures c.is_none.ensures c.if-is_none.true

pub returns-in-None : goal.returns-in-None
returns-in-None c =
    judged_accepted c.self.inside.entries c.self.inside.interfaces c.self.inside.last c.args.name.now
    c.as_slice-2.result.now c.get.result c.is_none.result c.args.self.now c.self.view_is
    (word_from c.as_slice.result.now c.args.name.now c.is_word_name.result true c.as_slice.ensures
    c.is_word_name.ensures c.if-not-is_word_name.false)
    c.as_slice-2.ensures c.get.ensures c.is_none.ensures c.as_slice-3.result.now c.as_slice-4.result.now
    c.as_slice-3.ensures c.as_slice-4.ensures c.self.invariant c.if-is_none.false c.in-None.ensures

pub returns-in-Some : goal.returns-in-Some
returns-in-Some c =
    judged_sub c.self.inside.entries c.self.inside.interfaces c.self.inside.last c.args.name.now c.as_slice-2.result.now
    c.get.result c.is_none.result c.args.self.now c.self.view_is
    (word_from c.as_slice.result.now c.args.name.now c.is_word_name.result true c.as_slice.ensures
    c.is_word_name.ensures c.if-not-is_word_name.false)
    c.as_slice-2.ensures c.get.ensures c.is_none.ensures c.as_slice-3.result.now c.as_slice-4.result.now
    c.in-Some.sub.now c.as_slice-3.ensures c.as_slice-4.ensures c.self.invariant c.if-is_none.false
    c.in-Some.ensures
