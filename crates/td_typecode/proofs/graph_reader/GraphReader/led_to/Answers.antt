use Rattle.std.proofs.Common.{◌≡◌, ◌≤◌, ap, refl, ◌∙◌, Ok}
use Rattle.td_cdr.specs.Place.{At}
use Rattle.td_cdr.specs.Sound.{ulong}
use Rattle.td_typecode.proofs.GraphParts.{same-origin, long-place}
use Rattle.td_typecode.proofs.graph_reader.GraphReader.led_to.Goals as goal

pub target-requires : goal.target-requires
target-requires c =
    let a = c.reader-next in
    let inside : a.result.origin ≤ a.result.place = rw a.ensures.same a.ensures.inside in
    let f : ulong.format.reads a.result ≡ Ok (c.in_ok-long.long, c.u32.new.self) = rw c.in_ok-long.ensures.gives refl in
    rw a.ensures.same at (long-place a.result c.u32.new.self c.in_ok-long.long inside f c.in_ok-long.ensures.place)

pub link-requires : goal.link-requires
link-requires c =
    let a = c.reader-next in
    let inside : a.result.origin ≤ a.result.place = rw a.ensures.same a.ensures.inside in
    let f : ulong.format.reads a.result ≡ Ok (c.in_ok-long.long, c.u32.new.self) = rw c.in_ok-long.ensures.gives refl in
    same-origin ulong a.result c.u32.new.self c.in_ok-long.long inside f ∙ ap (λ (z : At). z.origin) a.ensures.same
