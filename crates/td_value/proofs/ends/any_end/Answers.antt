use Rattle.td_typecode.proofs.OfPlainKind.{plain-else, number-else}
use Rattle.td_value.proofs.Endings.{plain_any_ends, string_any_ends}
use Rattle.td_value.proofs.ends.any_end.Goals as goal

pub returns-in_ok-bound-in-Str : goal.returns-in_ok-bound-in-Str
returns-in_ok-bound-in-Str c =
    string_any_ends c.args.any.now c.in-Str.bound c.args.place c.in_ok-kind.kind c.in_ok-bound-in-Str.bound
    c.string_end.result c.in-Str.is c.in_ok-kind.ensures c.in_ok-bound-in-Str.ensures c.string_end.ensures

pub returns-in_default : goal.returns-in_default
returns-in_default c =
    let n = c.in_default in
    let t = c.args.any.now.code in
    plain_any_ends c.args.any.now c.args.place c.in_ok-kind.kind c.number_end.result
    (plain-else t n.not-Str n.not-ObjRef n.not-Struct n.not-Union n.not-Enum n.not-Sequence n.not-Array n.not-Alias
    n.not-Except n.not-Linked)
    (number-else t n.not-Null n.not-Void n.not-AnyCode n.not-Code n.not-Str n.not-ObjRef n.not-Struct n.not-Union
    n.not-Sequence n.not-Array n.not-Alias n.not-Except n.not-Linked)
    c.in_ok-kind.ensures c.number_end.ensures
