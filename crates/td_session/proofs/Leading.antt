-- From one stage to the next.
use Rattle.std.proofs.Common.{◌≡◌, List, [], ◌∷◌, ◌++◌, map, refl, sym, ap, subst, ◌∙◌}
use Rattle.std.proofs.Common.{append_assoc}
use Rattle.std.proofs.lemmas.List.{append-nil, map-append}
use Rattle.td_cdr.specs.Marks.{Marks}
use Rattle.td_lookup.specs.Scenes.{Scene}
use Rattle.td_register.specs.declared.history.Accepted.{Accepted}
use Rattle.td_servant.specs.declared.entry.Entry.{Entry}
use Rattle.td_session_runs.specs.Turns.{ServedRequest, Turn, Run, journal_of, noted_in, noted_of}
use Rattle.td_walk.specs.declared.trace.Address.{Address}
use Rattle.td_session.specs.Stages.{Stage}

-- ---- journals

noted-append : (ts us : List Turn) → noted_of (ts ++ us) ≡ noted_of ts ++ noted_of us
noted-append [] us = refl
noted-append (t ∷ ts) us =
    ap (λ (x : List ServedRequest). noted_in t.request ++ x) (noted-append ts us)
    ∙ sym (append_assoc (noted_in t.request) (noted_of ts) (noted_of us))

pub journal-append : (ts us : List Turn) → journal_of (ts ++ us) ≡ journal_of ts ++ journal_of us
journal-append ts us =
    ap (λ (x : List ServedRequest). map (λ (n : ServedRequest). n.entry) x) (noted-append ts us)
    ∙ map-append (λ (n : ServedRequest). n.entry) (noted_of ts) (noted_of us)

module _ (others : List Accepted → Type 0) (later : Marks → Marks → Type 0) where
  -- These turns lead from one stage to the other: the journal grew by what is noted of them, and the address stays.
  pub record Leads (turns : List Turn) (s u : Stage) : Type 0 where
    pub run : Run others later s.home s.scene turns u.scene
    pub noted : u.journal ≡ s.journal ++ journal_of turns
    pub home : u.home ≡ s.home

module _ (others : List Accepted → Type 0) (later : Marks → Marks → Type 0) where
  run-then : (home : Address) (s m u : Scene) (ts us : List Turn) → Run others later home s ts m
      → Run others later home m us u → Run others later home s (ts ++ us) u
  run-then home s m u [] us f g = subst (λ (x : Scene). Run others later home x us u) f g
  run-then home s m u (t ∷ ts) us f g = (f.0, run-then home t.after m u ts us f.1 g)

  leads-none : (s : Stage) → Leads others later [] s s
  leads-none s = record { run = refl; noted = sym (append-nil s.journal); home = refl }

  pub leads-kept : (s u : Stage) → u ≡ s → Leads others later [] s u
  leads-kept s u e = subst (λ (x : Stage). Leads others later [] s x) (sym e) (leads-none s)

  pub leads-then : (s m u : Stage) (ts us : List Turn) → Leads others later ts s m → Leads others later us m u
      → Leads others later (ts ++ us) s u
  leads-then s m u ts us f g = record {
    run =
        run-then s.home s.scene m.scene u.scene ts us f.run
        (subst (λ (x : Address). Run others later x m.scene us u.scene) f.home g.run);
    noted = g.noted ∙ ap (λ (x : List Entry). x ++ journal_of us) f.noted
        ∙ append_assoc s.journal (journal_of ts) (journal_of us)
        ∙ ap (λ (x : List Entry). s.journal ++ x) (sym (journal-append ts us));
    home = g.home ∙ f.home;
  }
