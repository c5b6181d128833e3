use Rattle.std.proofs.Common.{[], ◌∷◌}
use Rattle.td_cdr.proofs.Appending.{puts-then}
use Rattle.td_cdr.specs.Sound.{ulong}
use Rattle.td_typecode.proofs.WrittenParts.{puts-added}
use Rattle.td_names.specs.Spelling.{binding_type_number, name}
use Rattle.td_names.proofs.spelling.NameBindingSpelled.write.Goals as goal

pub returns : goal.returns
returns c =
    let kind = ulong.format.writes (binding_type_number c.args.self.now.context) in
    let added = rw c.binding_type_number.ensures at c.u32.ensures in
    puts-then (name.format.writes (c.args.self.now.name ∷ [])) kind c.args.w.now c.put_name_of.new.w c.u32.new.self
    c.u32.result c.in_ok-put_name_of.ensures.done c.put_name_of.ensures.order
    (puts-added kind c.put_name_of.new.w c.u32.new.self c.u32.result added)
