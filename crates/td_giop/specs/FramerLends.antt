-- What a framer lends.
use Rattle.std.specs.Prelude.{◌≡◌, ⊤, ◌+◌, ◌-◌, ◌≤◌, length, take, Some, Ok}
use mathlib.Core.Option.{none}
use Rattle.std.specs.Borrow.{Fml, MutBor, follows_so}
use Rattle.td_giop.specs.declared.framer.Framer.{Framer}
use Rattle.td_giop.specs.declared.raw.Raw.{Raw}
use Rattle.td_giop.specs.contracts.framer.Framer.{the_row}
use Rattle.td_giop.specs.Header.{header_at}
use Rattle.td_giop.specs.Stream.{Stream, first_at}
use Rattle.td_giop.specs.declared.header.TheConstants.{HEADER_SIZE}

-- the framer is as it was, once what it lent has come back
abbrev pub KeepsFramer : MutBor Framer → Fml
KeepsFramer s = follows_so the_row the_row s.ghost_name none (λ _ _. ⊤) (λ n. n ≡ s.now)

-- m is the whole message in front of the stream, with what its header tells
pub record IsRaw (s : Stream) (m : Raw) : Type 0 where
  pub whole : first_at s.limit s.rest ≡ Ok (Some (length m.bytes.now))
  pub bytes : m.bytes.now ≡ take (length m.bytes.now) s.rest
  pub header : header_at s.limit s.rest
      ≡ Ok (Some (record {
        kind = m.kind;
        order = m.order;
        size = length m.bytes.now - HEADER_SIZE;
        minor = m.minor;
      }))
  pub place : m.start ≡ s.start
  pub least : HEADER_SIZE ≤ length m.bytes.now
  pub most : length m.bytes.now ≤ s.limit + HEADER_SIZE
