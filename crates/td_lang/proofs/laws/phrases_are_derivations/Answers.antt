use Rattle.td_lang.specs.Derivation.{Or}
use Rattle.td_lang.proofs.Derivations.{derives, made}
use Rattle.td_lang.proofs.laws.phrases_are_derivations.Goals as goal

pub returns : goal.returns
returns c = record { derived = λ p f. derives p Or f; made = λ ts e d. made Or ts e d }
