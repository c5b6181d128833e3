use Rattle.td_typecode.proofs.begun_nodes.+discriminator.Given as goal

abbrev pub decreases-discriminator : goal.decreases-discriminator
decreases-discriminator l = l.aliases
