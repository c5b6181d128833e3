-- A session in a new room.
use Rattle.std.proofs.Common.{◌≡◌, ℕ, List, [], length, refl, subst}
use Rattle.std.proofs.lemmas.List.{nil_from_length}
use Rattle.td_name_session.specs.Completeness.{Completes}
use Rattle.td_name_session.specs.Scenes.{IteratorList, Scene, scene}
use Rattle.td_name_session.specs.Sessions.{Serves}
use Rattle.td_name_session.specs.Stages.{IsNew, Room}
use Rattle.td_naming.specs.Views.{View}
use Rattle.td_naming.specs.declared.history.NameChange.{NameChange}
use Rattle.td_stream.specs.Outside.{Outside}
use Rattle.td_stream.specs.declared.end.End.{End}
use Rattle.td_name_sessions.specs.Sessions.{ServesOver}

pub same_desk : (d : IteratorList) → length d.0 ≡ 0 → d.1 ≡ 1 → d ≡ ([], 1)
same_desk d none first =
    let is : d.0 ≡ [] = nil_from_length d.0 none in
    let pair : (d.0, d.1) ≡ ([], 1) = rw (is, first) refl in
    pair

-- a room that has no iterator, and in which nothing is noted
pub new_room : (room : Room) → (length room.desk.0 ≡ 0) × (room.desk.1 ≡ 1) → length room.journal ≡ 0 → IsNew room
new_room room desk journal = record {
  desk = same_desk room.desk desk.0 desk.1;
  journal = nil_from_length room.journal journal;
}

pub served : (others : List NameChange → Type 0) (first : View) (desk : IteratorList) (after : Scene) (journal : List ℕ)
    (end : End) (before now : Outside) → desk ≡ ([], 1) → Serves others (scene first desk) after journal end before now
    → Completes others (scene first desk) after end before now
    → ServesOver others first journal end before now after.names
served others first desk after journal end before now d s f = record {
  scene_after = after;
  seen = refl;
  serves = subst (λ (x : IteratorList). Serves others (scene first x) after journal end before now) d s;
  complete = subst (λ (x : IteratorList). Completes others (scene first x) after end before now) d f;
}
