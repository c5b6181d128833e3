-- The visitors of a file's address, by its text.
use Rattle.std.proofs.Common.{◌≡◌, ℕ, List, Ok}
use Rattle.td_cdr.specs.Lawful.{AreOctets}
use Rattle.td_file.specs.Files.{Opening, opening_of}
use Rattle.td_shared_sessions.specs.Sessions.{WordsBySeeding}
use Rattle.td_stream.specs.Outside.{Outside}
use Rattle.td_shared_listen.specs.Listens.{ListenState, ServesOpening, ServesText}
use Rattle.td_shared_listen.specs.declared.listened.Listened.{Listened}
use Rattle.td_shared_listen.specs.declared.listened.Listened.TheVariants.{Usage, Missing, TooLong, Refused, Memory, Unaccepted}
use Rattle.td_shared_listen.specs.declared.listened.Listened.TheVariants.{Over}

pub text_serves : {X : Type 0} (outside_of : X → Outside) (seeded : X → WordsBySeeding) (text : List ℕ) (o : Opening)
    (listened : Listened) (before after : ListenState X) → opening_of text ≡ Ok o → AreOctets text
    → ServesOpening outside_of seeded o listened before after → ServesText outside_of seeded text listened before after
text_serves outside_of seeded text o Over before after e octets h = (o, e, octets, h)
text_serves outside_of seeded text o Unaccepted before after e octets h = (o, e, h)
text_serves outside_of seeded text o Memory before after e octets h = h
text_serves outside_of seeded text o Usage before after e octets h = absurd h
text_serves outside_of seeded text o Missing before after e octets h = absurd h
text_serves outside_of seeded text o TooLong before after e octets h = absurd h
text_serves outside_of seeded text o (Refused number cause) before after e octets h = absurd h
