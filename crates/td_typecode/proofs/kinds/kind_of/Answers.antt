use Rattle.std.proofs.Common.{sym, ap, ◌∙◌}
use Rattle.td_typecode.specs.declared.code.TypeCode.{out-TypeCode}
use Rattle.td_typecode.specs.Layers.{code-null, code-void, code-short, code-long, code-ushort, code-ulong, code-boolean}
use Rattle.td_typecode.specs.Layers.{code-char, code-octet, code-any, code-code, code-longlong, code-ulonglong}
use Rattle.td_typecode.specs.Layers.{code-linked}
use Rattle.td_typecode.specs.WritingCodes.{kind_of_layer}
use Rattle.td_typecode.proofs.kinds.kind_of.Goals as goal

pub returns-in-Null : goal.returns-in-Null
returns-in-Null c = sym (ap kind_of_layer (ap out-TypeCode c.in-Null.is ∙ code-null))

pub returns-in-Void : goal.returns-in-Void
returns-in-Void c = sym (ap kind_of_layer (ap out-TypeCode c.in-Void.is ∙ code-void))

pub returns-in-Short : goal.returns-in-Short
returns-in-Short c = sym (ap kind_of_layer (ap out-TypeCode c.in-Short.is ∙ code-short))

pub returns-in-Long : goal.returns-in-Long
returns-in-Long c = sym (ap kind_of_layer (ap out-TypeCode c.in-Long.is ∙ code-long))

pub returns-in-UShort : goal.returns-in-UShort
returns-in-UShort c = sym (ap kind_of_layer (ap out-TypeCode c.in-UShort.is ∙ code-ushort))

pub returns-in-ULong : goal.returns-in-ULong
returns-in-ULong c = sym (ap kind_of_layer (ap out-TypeCode c.in-ULong.is ∙ code-ulong))

pub returns-in-Boolean : goal.returns-in-Boolean
returns-in-Boolean c = sym (ap kind_of_layer (ap out-TypeCode c.in-Boolean.is ∙ code-boolean))

pub returns-in-Char : goal.returns-in-Char
returns-in-Char c = sym (ap kind_of_layer (ap out-TypeCode c.in-Char.is ∙ code-char))

pub returns-in-Octet : goal.returns-in-Octet
returns-in-Octet c = sym (ap kind_of_layer (ap out-TypeCode c.in-Octet.is ∙ code-octet))

pub returns-in-AnyCode : goal.returns-in-AnyCode
returns-in-AnyCode c = sym (ap kind_of_layer (ap out-TypeCode c.in-AnyCode.is ∙ code-any))

pub returns-in-Code : goal.returns-in-Code
returns-in-Code c = sym (ap kind_of_layer (ap out-TypeCode c.in-Code.is ∙ code-code))

pub returns-in-Linked : goal.returns-in-Linked
returns-in-Linked c = sym (ap kind_of_layer (ap out-TypeCode c.in-Linked.is ∙ code-linked _))

pub returns-in-LongLong : goal.returns-in-LongLong
returns-in-LongLong c = sym (ap kind_of_layer (ap out-TypeCode c.in-LongLong.is ∙ code-longlong))

pub returns-in-ULongLong : goal.returns-in-ULongLong
returns-in-ULongLong c = sym (ap kind_of_layer (ap out-TypeCode c.in-ULongLong.is ∙ code-ulonglong))
