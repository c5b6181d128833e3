use Rattle.td_lang.proofs.PreferenceReading.{prefers_so, one_said, one_preference}
use Rattle.td_lang.proofs.preference_laws.preferences_are_read.Goals as goal

pub returns : goal.returns
returns c = record {
  found = λ text. prefers_so text;
  one_answer = λ text r q h k. one_said text r q h k;
  one_preference = λ ts p q h k. one_preference ts p q h k;
}
