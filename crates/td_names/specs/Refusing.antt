-- Answers that refuse a call.
use Rattle.std.specs.Prelude.{Bool, true, false}
use Rattle.td_names.specs.declared.act.NameAnswer.{NameAnswer}
use Rattle.td_names.specs.declared.act.NameAnswer.TheVariants.{Done, User, System}

abbrev pub is_refusal : NameAnswer → Bool
is_refusal (Done reply) = false
is_refusal (User exception) = true
is_refusal (System refusal) = true
