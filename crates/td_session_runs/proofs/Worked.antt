-- Worked examples.
use Rattle.std.proofs.Common.{◌≡◌, List, [], ◌∷◌, Bool, false, Ok, refl, sym, ap, ◌∙◌, arith}
use Rattle.td_cdr.specs.Marks.{Marks}
use Rattle.td_cdr.specs.Reading.{cell_at, number_at, octets_at}
use Rattle.td_giop.specs.Heads.{cancel_at, locate_at}
use Rattle.td_giop.specs.Written.{locate_reply_written}
use Rattle.td_ior.specs.Keys.{key_of}
use Rattle.td_iter.specs.Desks.{Live}
use Rattle.td_lookup.specs.Scenes.{Scene}
use Rattle.td_ops.specs.declared.call.Query.{Query}
use Rattle.td_register.specs.declared.history.Accepted.{Accepted}
use Rattle.td_servant.specs.Objects.{object_at}
use Rattle.td_dispatch.specs.ReplyBytes.{locate_reply}
use Rattle.td_trader.specs.Worlds.{View}
use Rattle.td_session_runs.specs.Examples.{WorkedJournal, WorkedRun, cancel_message, locate_message, unknown_reply}
use Rattle.td_stream.specs.Messages.{behind, minor_of, order_of}
use Rattle.td_session_runs.specs.Turns.{cancel, is_live, locate}
use Rattle.td_walk.specs.declared.trace.Address.{Address}

pub journal : (q : Query) → WorkedJournal q
journal q = record {
  first_points = refl;
  second_points = refl;
  no_memory_points = refl;
  places = refl;
  marks = refl;
  rise = (omega arith, (omega arith, (omega arith, (omega arith, omega arith))));
  fall = λ h. let bad = h.1.0 in omega (arith, bad);
}

cancel-read : cancel_at (behind cancel_message) ≡ Ok 5
unfolding cancel_at number_at cell_at
cancel-read = refl

locate-read : locate_at (behind locate_message) ≡ Ok (6, 120 ∷ [])
unfolding locate_at number_at cell_at octets_at
locate-read = refl

no-object : (w : List View) (d : Live) → is_live w d (120 ∷ []) ≡ false
unfolding object_at key_of
no-object w d = refl

reply-content : unknown_reply ≡ locate_reply (order_of locate_message) (minor_of locate_message) 6 false
unfolding locate_reply_written
reply-content = refl

unknown-content : (s : Scene) → unknown_reply ≡ locate_reply (order_of locate_message) (minor_of locate_message) 6 (is_live s.world s.desk (120 ∷ []))
unknown-content s = reply-content ∙ ap (λ (b : Bool). locate_reply (order_of locate_message) (minor_of locate_message) 6 b) (sym (no-object s.world s.desk))

pub run : (others : List Accepted → Type 0) (later : Marks → Marks → Type 0) (home : Address) (s : Scene)
    → WorkedRun others later home s
run others later home s = record {
  run = (
    cancel (record { id = 5; kind = refl; read = cancel-read; request = refl; content = refl; kept = refl }),
    (
      locate
          (record {
            id = 6;
            key = 120 ∷ [];
            kind = refl;
            read = locate-read;
            request = refl;
            content = unknown-content s;
            kept = refl;
          }),
      refl,
    ),
  );
  content = refl;
}
