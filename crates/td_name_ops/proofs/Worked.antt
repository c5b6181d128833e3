-- Worked examples.
use Rattle.std.proofs.Common.{refl}
use Rattle.td_cdr.specs.Reading.{cell_at, number_at, octets_at, string_at}
use Rattle.td_name_ops.specs.Examples.{WorkedBodies, WorkedReplies}

pub bodies : WorkedBodies
unfolding cell_at number_at octets_at string_at
bodies = record {
  resolve = refl;
  bind = refl;
  list = refl;
  destroy_context = refl;
  destroy_iterator = refl;
  short = refl;
  not_implemented = refl;
  of_iterators = refl;
}

pub replies : WorkedReplies
replies = record {
  not_found = refl;
  not_empty = refl;
  next = refl;
  past_the_end = refl;
  some = refl;
  no_more = refl;
  list = refl;
  limit = refl;
  statuses = (refl, refl, refl);
}
