use Rattle.td_typecode.proofs.begun_nodes.+bare.Given as goal

abbrev pub decreases-bare : goal.decreases-bare
decreases-bare l = l.aliases
