-- What the message in front of a stream tells.
use Rattle.std.proofs.Common.{◌≡◌, ℕ, sym, subst, arith}
use Rattle.td_giop.specs.declared.raw.Raw.{Raw}
use Rattle.td_giop.specs.Stream.{Stream}
use Rattle.td_giop.specs.Cut.{IsFirstMessage}
use Rattle.td_giop.specs.FramerLends.{IsRaw}
use Rattle.td_giop.proofs.Judged.{only_content}
use Rattle.td_giop.proofs.Cuts.{raw_front, raw_good}
use Rattle.td_stream.specs.Heads.{IsMessage}
use Rattle.td_stream.specs.Messages.{message_limit}
use Rattle.td_stream.specs.Steps.{MessageStep, step_of}
use Rattle.td_stream.specs.Streams.{FirstHasStep}

pub is_message : (s : Stream) (m : Raw) → s.limit ≡ message_limit → IsRaw s m → IsMessage m
is_message s m limited raw =
    let good = raw_good s m raw in
    record {
      kind = sym good.type_octet.0;
      order = only_content _ m.order good.order_octet;
      minor = sym good.minor_octet;
      newest = (let version = good.version in omega (arith, version.minor, good.minor_octet));
      least = raw.least;
      most = let most = raw.most in omega arith;
    }

pub in_front : (s : Stream) (m : Raw) → s.limit ≡ message_limit → IsRaw s m → IsFirstMessage message_limit s.rest m.bytes.now
in_front s m limited raw = subst (λ (n : ℕ). IsFirstMessage n s.rest m.bytes.now) limited (raw_front s m raw)

-- the message in front has this step
pub meets : (s : Stream) (m : Raw) (step : MessageStep) → s.limit ≡ message_limit → IsRaw s m → step_of m.bytes.now ≡ step
    → FirstHasStep s.rest step
meets s m step limited raw has =
    record { message = m.bytes.now; front = in_front s m limited raw; has_step = has }
