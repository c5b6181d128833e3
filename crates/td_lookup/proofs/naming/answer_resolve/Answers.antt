use Rattle.std.proofs.Common.{refl}
use Rattle.td_lookup.proofs.Followed.{name_answered, name_back, nothing_answered, nothing_back}
use Rattle.td_lookup.proofs.Moved.{still_within}
use Rattle.td_lookup.proofs.naming.answer_resolve.Goals as goal
use Rattle.td_query_walk.proofs.Counting.{counted-up}

pub tell_name-requires : goal.tell_name-requires
tell_name-requires g c =
    still_within g.T.Traders.others g.T.Traders.later _ _ c.args.trader c.resolve.ensures.goes c.requires

pub returns-in-Ok-clause-content : goal.returns-in-Ok-clause-content
returns-in-Ok-clause-content g c = λ x d words at.
    name_answered g.T.Traders.others g.T.Traders.later c.args.home.now x c.args.trader c.args.names.now _ _ at refl refl
    c.resolve.ensures.goes c.resolve.ensures.quiet c.resolve.ensures.faults c.in-Ok.answer c.tell_name.result
    c.tell_name.ensures c.in-Ok.ensures.resolves

pub returns-in-Ok-clause-if_no_memory : goal.returns-in-Ok-clause-if_no_memory
returns-in-Ok-clause-if_no_memory g c = λ x d words at.
    name_back g.T.Traders.others g.T.Traders.later c.args.home.now x c.args.trader c.args.names.now _ _ at refl refl
    c.resolve.ensures.goes c.resolve.ensures.quiet c.resolve.ensures.faults c.in-Ok.answer c.tell_name.result
    c.tell_name.ensures c.in-Ok.ensures.resolves

pub returns-in-Err-clause-content : goal.returns-in-Err-clause-content
returns-in-Err-clause-content g c = λ x d words at.
    nothing_answered g.T.Traders.others g.T.Traders.later c.args.home.now x c.args.trader c.args.names.now _ _ at refl
    refl c.resolve.ensures.goes c.resolve.ensures.quiet c.resolve.ensures.faults c.no_memory_with.result
    c.no_memory_with.ensures c.in-Err.ensures.unasked

pub returns-in-Err-clause-if_no_memory : goal.returns-in-Err-clause-if_no_memory
returns-in-Err-clause-if_no_memory g c = λ x d words at.
    nothing_back g.T.Traders.others g.T.Traders.later c.args.home.now x c.args.trader c.args.names.now _ _ at refl refl
    c.resolve.ensures.goes c.resolve.ensures.quiet c.resolve.ensures.faults c.no_memory_with.result c.no_memory_with.ensures
    c.in-Err.ensures.unasked

pub returns-in-Ok-clause-faults : goal.returns-in-Ok-clause-faults
returns-in-Ok-clause-faults g c = counted-up _ _ _ _ c.resolve.ensures.faults

pub returns-in-Err-clause-faults : goal.returns-in-Err-clause-faults
returns-in-Err-clause-faults g c = counted-up _ _ _ _ c.resolve.ensures.faults
