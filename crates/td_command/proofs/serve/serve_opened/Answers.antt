use Rattle.std.proofs.Common.{ℕ, List, [], refl, ap, ◌∙◌}
use Rattle.td_file.specs.Files.{seen}
use Rattle.td_servant.specs.Linking.{peers_seen}
use Rattle.td_walk.specs.Peering.{Exchange}
use Rattle.td_command.proofs.Serving.{begun}
use Rattle.td_command.proofs.serve.serve_opened.Goals as goal

pub returns : goal.returns
returns g c =
    let seeded = g.W.Words.word_after c.args.words.now in
    begun (seen c.args.opened) seeded c.in-Ok.room.home c.in-Ok.room.desk _ _ _ _ _ _ _
    c.serve_connection-end.new.traders.traders.items refl c.in-Ok.ensures.home
    c.in-Ok.ensures.new.desk
    (ap (λ (calls : List Exchange). peers_seen calls c.new-peers.result.faults) c.new-peers.ensures.calls
    ∙ ap (λ (k : ℕ). peers_seen [] k) c.new-peers.ensures.faults)
    (λ k. c.seed.ensures.words k ∙ ap (λ (s : List ℕ). seeded (record { key = s; stream = 0 }) k) c.as_slice.ensures)
    c.serve_connection-end.ensures.serves
