use Rattle.td_typecode.specs.declared.code.TypeCode.TheVariants as code
use Rattle.td_typecode.specs.declared.code.TypeCode.TheOpen as layer_of
use Rattle.td_typecode.specs.Layers.{code-short, code-long, code-ushort, code-ulong, code-boolean, code-char}
use Rattle.td_typecode.specs.Layers.{code-longlong, code-ulonglong, code-enum, code-alias}
use Rattle.td_typecode.proofs.AtLayers.{labels-reads}
use Rattle.td_typecode.proofs.labels.+label_at.Goals as goal

pub returns-in-Enum : goal.returns-in-Enum
returns-in-Enum t c =
    rw (
      c.in-Enum.is,
      labels-reads c.args.levels (code.Enum c.in-Enum.id c.in-Enum.name c.in-Enum.labels)
          (layer_of.TypeCode::Enum c.in-Enum.id c.in-Enum.name c.in-Enum.labels) c.if-levels-eq0.false
          (code-enum c.in-Enum.id c.in-Enum.name c.in-Enum.labels) c.args.r.now,
      ← c.len.ensures,
    )
    c.one_of.ensures

pub returns-in-Alias : goal.returns-in-Alias
returns-in-Alias t c =
    rw (
      c.in-Alias.is,
      labels-reads c.args.levels (code.Alias c.in-Alias.id c.in-Alias.name c.in-Alias.item)
          (layer_of.Alias c.in-Alias.id c.in-Alias.name c.in-Alias.item) c.if-levels-eq0.false
          (code-alias c.in-Alias.id c.in-Alias.name c.in-Alias.item) c.args.r.now,
      ← c.get.ensures,
    )
    c.label_at.ensures

pub returns-in-Short : goal.returns-in-Short
returns-in-Short t c =
    rw (
      c.in-Short.is,
      labels-reads c.args.levels code.Short layer_of.TypeCode::Short c.if-levels-eq0.false code-short
          c.args.r.now,
    )
    c.short_at.ensures

pub returns-in-Long : goal.returns-in-Long
returns-in-Long t c =
    rw (
      c.in-Long.is,
      labels-reads c.args.levels code.Long layer_of.TypeCode::Long c.if-levels-eq0.false code-long
          c.args.r.now,
    )
    c.long_at.ensures

pub returns-in-UShort : goal.returns-in-UShort
returns-in-UShort t c =
    rw (
      c.in-UShort.is,
      labels-reads c.args.levels code.UShort layer_of.TypeCode::UShort c.if-levels-eq0.false
          code-ushort c.args.r.now,
    )
    c.ushort_at.ensures

pub returns-in-ULong : goal.returns-in-ULong
returns-in-ULong t c =
    rw (
      c.in-ULong.is,
      labels-reads c.args.levels code.ULong layer_of.TypeCode::ULong c.if-levels-eq0.false code-ulong
          c.args.r.now,
    )
    c.ulong_at.ensures

pub returns-in-Boolean : goal.returns-in-Boolean
returns-in-Boolean t c =
    rw (
      c.in-Boolean.is,
      labels-reads c.args.levels code.Boolean layer_of.TypeCode::Boolean c.if-levels-eq0.false
          code-boolean c.args.r.now,
    )
    c.boolean_at.ensures

pub returns-in-Char : goal.returns-in-Char
returns-in-Char t c =
    rw (
      c.in-Char.is,
      labels-reads c.args.levels code.Char layer_of.TypeCode::Char c.if-levels-eq0.false code-char
          c.args.r.now,
    )
    c.char_at.ensures

pub returns-in-LongLong : goal.returns-in-LongLong
returns-in-LongLong t c =
    rw (
      c.in-LongLong.is,
      labels-reads c.args.levels code.LongLong layer_of.TypeCode::LongLong c.if-levels-eq0.false
          code-longlong c.args.r.now,
    )
    c.longlong_at.ensures

pub returns-in-ULongLong : goal.returns-in-ULongLong
returns-in-ULongLong t c =
    rw (
      c.in-ULongLong.is,
      labels-reads c.args.levels code.ULongLong layer_of.TypeCode::ULongLong c.if-levels-eq0.false
          code-ulonglong c.args.r.now,
    )
    c.ulonglong_at.ensures
