-- From one stage to the next.
use Rattle.std.proofs.Common.{◌≡◌, ℕ, List, [], ◌∷◌, ◌++◌, refl, sym, ap, subst, ◌∙◌, append_assoc}
use Rattle.std.proofs.lemmas.List.{append-nil}
use Rattle.td_naming.specs.declared.history.NameChange.{NameChange}
use Rattle.td_name_session.specs.Scenes.{Scene}
use Rattle.td_name_session.specs.Stages.{TurnsLead, Stage}
use Rattle.td_name_session.specs.Turns.{Run, Turn, journal_of, point_in}

pub journal-append : (ts us : List Turn) → journal_of (ts ++ us) ≡ journal_of ts ++ journal_of us
journal-append [] us = refl
journal-append (t ∷ ts) us =
    ap (λ (x : List ℕ). point_in t.point ++ x) (journal-append ts us)
    ∙ sym (append_assoc (point_in t.point) (journal_of ts) (journal_of us))

module _ (others : List NameChange → Type 0) where
  run-then : (s m u : Scene) (ts us : List Turn) → Run others s ts m → Run others m us u → Run others s (ts ++ us) u
  run-then s m u [] us f g = subst (λ (x : Scene). Run others x us u) f g
  run-then s m u (t ∷ ts) us f g = (f.0, run-then t.after m u ts us f.1 g)

  leads-none : (s : Stage) → TurnsLead others [] s s
  leads-none s = record { run = refl; noted = sym (append-nil s.journal) }

  pub leads-kept : (s u : Stage) → u ≡ s → TurnsLead others [] s u
  leads-kept s u e = subst (λ (x : Stage). TurnsLead others [] s x) (sym e) (leads-none s)

  pub leads-then : (s m u : Stage) (ts us : List Turn) → TurnsLead others ts s m → TurnsLead others us m u
      → TurnsLead others (ts ++ us) s u
  leads-then s m u ts us f g = record {
    run = run-then s.scene m.scene u.scene ts us f.run g.run;
    noted = g.noted ∙ ap (λ (x : List ℕ). x ++ journal_of us) f.noted
        ∙ append_assoc s.journal (journal_of ts) (journal_of us)
        ∙ ap (λ (x : List ℕ). s.journal ++ x) (sym (journal-append ts us));
  }
