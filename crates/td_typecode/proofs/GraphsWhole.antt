-- What is read with indirections is a whole graph.
use Rattle.td_typecode.specs.GraphLaws.{GraphsAreWhole}
use Rattle.td_typecode.specs.WholeGraphs.{all-read, root-read, nodes-whole, known-again}
use Rattle.td_indirection.specs.States.{nodes}

pub graphs-whole : GraphsAreWhole
graphs-whole levels mode order place j next b octets spelled =
    let read = all-read levels mode order place j next b octets spelled in (
      root-read levels mode order place j next b octets spelled,
      nodes-whole (nodes next) read,
      known-again (nodes next) read,
    )
