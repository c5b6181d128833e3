-- The shapes of results: what goes out, in the order of declaration, a result before it (CORBA, chapter on General
-- Inter-ORB Protocol, "Reply Body").
use Rattle.std.specs.Prelude.{Some, None, refl}
use Rattle.td_cdr.specs.Format.{Piece}
use Rattle.td_cdr.specs.Sound.{Sound, ◌&◌, variant, constant, text, ulong, boolean, octets, sequence}
use Rattle.td_cdr.specs.declared.value_fault.ValueFault.{ValueFault}
use Rattle.td_typecode.specs.References.{reference}
use Rattle.td_value.specs.Enumerations.{follow_option}
use Rattle.td_value.specs.Structures.{incarnation_number, offer, offer_info, link_info, proxy_info, type_struct}
use Rattle.td_ops.specs.declared.outcome.Reply.{Reply}
use Rattle.td_ops.specs.declared.outcome.Reply.TheVariants as reply
use Rattle.td_ops.specs.declared.shape.Shape.{Shape}
use Rattle.td_ops.specs.declared.shape.Shape.TheVariants as shape

abbrev pub shape_of : Reply → Shape
shape_of reply.Nothing = shape.Nothing
shape_of (reply.Id _) = shape.Id
shape_of (reply.Number _) = shape.Number
shape_of (reply.Truth _) = shape.Truth
shape_of (reply.Reference _) = shape.Reference
shape_of (reply.Follow _) = shape.Follow
shape_of (reply.Stem _) = shape.Stem
shape_of (reply.Incarnation _) = shape.Incarnation
shape_of (reply.Names _) = shape.Names
shape_of (reply.Offer _) = shape.Offer
shape_of (reply.Link _) = shape.Link
shape_of (reply.Proxy _) = shape.Proxy
shape_of (reply.Typed _) = shape.Typed
shape_of (reply.Found _ _ _) = shape.Found
shape_of (reply.Ids _ _) = shape.Ids
shape_of (reply.Batch _ _) = shape.Batch
shape_of (reply.IdBatch _ _) = shape.IdBatch

-- the results of a shape
abbrev pub results : Shape → Sound ValueFault Reply
results shape.Nothing = constant reply.Nothing
results shape.Id = variant (λ p. reply.Id p) (elim [ reply.Id x ↦ Some x | _ ↦ None ]) (λ _. refl)
    (text)
results shape.Number = variant (λ p. reply.Number p) (elim [ reply.Number x ↦ Some x | _ ↦ None ])
    (λ _. refl) (ulong)
results shape.Truth = variant (λ p. reply.Truth p) (elim [ reply.Truth x ↦ Some x | _ ↦ None ])
    (λ _. refl) (boolean)
results shape.Reference =
    variant (λ p. reply.Reference p) (elim [ reply.Reference x ↦ Some x | _ ↦ None ]) (λ _. refl)
    (reference)
results shape.Follow =
    variant (λ p. reply.Follow p) (elim [ reply.Follow x ↦ Some x | _ ↦ None ]) (λ _. refl)
    (follow_option)
results shape.Stem = variant (λ p. reply.Stem p) (elim [ reply.Stem x ↦ Some x | _ ↦ None ])
    (λ _. refl) (octets)
results shape.Incarnation =
    variant (λ p. reply.Incarnation p) (elim [ reply.Incarnation x ↦ Some x | _ ↦ None ])
    (λ _. refl) (incarnation_number)
results shape.Names =
    variant (λ p. reply.Names p) (elim [ reply.Names x ↦ Some x | _ ↦ None ]) (λ _. refl)
    (sequence text)
results shape.Offer = variant (λ p. reply.Offer p) (elim [ reply.Offer x ↦ Some x | _ ↦ None ])
    (λ _. refl) (offer_info)
results shape.Link = variant (λ p. reply.Link p) (elim [ reply.Link x ↦ Some x | _ ↦ None ])
    (λ _. refl) (link_info)
results shape.Proxy = variant (λ p. reply.Proxy p) (elim [ reply.Proxy x ↦ Some x | _ ↦ None ])
    (λ _. refl) (proxy_info)
results shape.Typed =
    variant (λ p. reply.Typed p) (elim [ reply.Typed x ↦ Some x | _ ↦ None ]) (λ _. refl)
    (type_struct)
results shape.Found =
    variant (λ p. reply.Found p.0 p.1.0 p.1.1)
    (elim [ reply.Found x y z ↦ Some (x, (y, z)) | _ ↦ None ]) (λ _. refl)
    (sequence offer & reference & sequence text)
results shape.Ids =
    variant (λ p. reply.Ids p.0 p.1) (elim [ reply.Ids x y ↦ Some (x, y) | _ ↦ None ]) (λ _. refl)
    (sequence text & reference)
results shape.Batch =
    variant (λ p. reply.Batch p.0 p.1) (elim [ reply.Batch x y ↦ Some (x, y) | _ ↦ None ])
    (λ _. refl) (boolean & sequence offer)
results shape.IdBatch =
    variant (λ p. reply.IdBatch p.0 p.1) (elim [ reply.IdBatch x y ↦ Some (x, y) | _ ↦ None ])
    (λ _. refl) (boolean & sequence text)

-- what is written for a result
abbrev pub reply_piece : Reply → Piece
reply_piece r = (results (shape_of r)).format.writes r
