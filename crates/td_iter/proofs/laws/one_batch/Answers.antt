use Rattle.std.proofs.Common.{◌+◌, length}
use Rattle.td_iter.specs.declared.limits.TheConstants.{LARGEST_MESSAGE}
use Rattle.td_iter.specs.Batches.{batch}
use Rattle.td_iter.proofs.Greatest.{greatest_is_one, a_greatest}
use Rattle.td_iter.proofs.laws.one_batch.Goals as goal

pub returns-clause-one : goal.returns-clause-one
returns-clause-one g c = λ head left draft n j k. greatest_is_one

pub returns-clause-there : goal.returns-clause-there
returns-clause-there g c =
    λ head left draft n. a_greatest (λ k. length draft.bytes + length (batch head left k draft.order
    (length draft.bytes))) LARGEST_MESSAGE n (length left)
