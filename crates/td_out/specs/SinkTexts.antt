-- What goes to a sink.
use Rattle.std.specs.Prelude.{◌≡◌, ◌⊎◌, ℕ, ◌<◌, ◌≤◌, List, [], ◌++◌, length, take, Option, Result, OnOk, OnErr}
use Rattle.std.specs.Io.KnownBytes.{Appends}
use Rattle.td_out.specs.Causes.{Rose}

-- a sink was given this text, or its front where its count of faults rose
pub record GivesText (text : List ℕ) (written0 written1 : Option (List ℕ))
    (faults0 faults1 : ℕ) : Type 0 where
  pub content : List ℕ
  pub unknown_content : List ℕ
  pub parts : text ≡ content ++ unknown_content
  pub gave : Appends written0 written1 content
  pub whole : (unknown_content ≡ []) ⊎ Rose faults0 faults1
  pub later : faults0 ≤ faults1

-- all of a text was written, or a front of it that isn't all, with a count of faults that rose
pub record WritesAll {E : Type 0} (written0 written1 : Option (List ℕ)) (faults0 faults1 : ℕ)
    (text : List ℕ) (result : Result (Unit {0}) E) : Type 0 where
  pub whole : OnOk result (Appends written0 written1 text)
  pub front : OnErr result ((sent : ℕ) × (sent < length text)
      × Appends written0 written1 (take sent text))
  pub later : faults0 ≤ faults1
  pub rose : OnErr result (Rose faults0 faults1)
