-- A text on its way to a sink.
use Rattle.std.proofs.Common.{inl, inr, ℕ, ◌≤◌, List, ◌++◌, take, drop, append_assoc, Option, sym, ap, ◌∙◌, arith}
use Rattle.std.specs.Io.KnownBytes.{Appends}
use Rattle.std.proofs.lemmas.List.{take-append-drop}
use Rattle.td_out.specs.Causes.{Rose}
use Rattle.td_out.specs.SinkTexts.{GivesText}
use Rattle.td_out.proofs.Steps.{Appends-then, Rose-later}

-- a text of which a front was given
pub tells-front : (text : List ℕ) (sent : ℕ) (w0 w : Option (List ℕ)) (f0 f : ℕ) → Appends w0 w (take sent text)
    → f0 ≤ f → Rose f0 f → GivesText text w0 w f0 f
tells-front text sent w0 w f0 f a h r = record {
  content = take sent text;
  unknown_content = drop sent text;
  parts = sym (take-append-drop sent text);
  gave = a;
  whole = inr r;
  later = h;
}

-- a text that follows one that was given whole
pub tells-after : (first second : List ℕ) (w0 w w1 : Option (List ℕ)) (f0 f f1 : ℕ) → Appends w0 w first → f0 ≤ f
    → GivesText second w w1 f f1 → GivesText (first ++ second) w0 w1 f0 f1
tells-after first second w0 w w1 f0 f f1 a h t = record {
  content = first ++ t.content;
  unknown_content = t.unknown_content;
  parts = ap (λ x. first ++ x) t.parts ∙ sym (append_assoc first t.content t.unknown_content);
  gave = Appends-then w0 w w1 first t.content a t.gave;
  whole = elim t.whole [ inl e ↦ inl e | inr r ↦ inr (Rose-later f0 f f1 h r) ];
  later = omega (arith, h, t.later);
}

-- one whose front alone was given: what follows isn't
pub tells-before : (first second : List ℕ) (w0 w : Option (List ℕ)) (f0 f : ℕ) → GivesText first w0 w f0 f → Rose f0 f
    → GivesText (first ++ second) w0 w f0 f
tells-before first second w0 w f0 f t r = record {
  content = t.content;
  unknown_content = t.unknown_content ++ second;
  parts = ap (λ x. x ++ second) t.parts ∙ append_assoc t.content t.unknown_content second;
  gave = t.gave;
  whole = inr r;
  later = t.later;
}
