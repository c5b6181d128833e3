-- What peers gave for Requests can be written, since all that their calls gave can be.
use Rattle.std.proofs.Common.{List, [], ◌∷◌, subst}
use Rattle.td_lookup.specs.NoMemory.{PeersGive}
use Rattle.td_servant.specs.Linking.{PeersSeen}
use Rattle.td_walk.proofs.Gifts.{gave_since}
use Rattle.td_walk.specs.Peering.{AdmitsExchanges, AdmitsGifts, Exchange, PeerAnswer}
use Rattle.td_query_walk.specs.Walks.{given_in}

given-admitted : (calls : List Exchange) → AdmitsExchanges calls → AdmitsGifts (given_in calls)
given-admitted [] gave = tt
given-admitted (x ∷ calls) gave = (gave.0, given-admitted calls gave.1)

pub gave-admitted : (before after : PeersSeen) (gave : List PeerAnswer) → PeersGive before gave after
    → AdmitsExchanges after.calls → AdmitsGifts gave
gave-admitted before after gave g all =
    subst AdmitsGifts g.given
    (given-admitted g.made (gave_since before.calls g.made after.calls g.calls all))
