use Rattle.std.proofs.Common.{◌≡◌, ℕ, List, true, sym, ◌∙◌, subst}
use Rattle.std.proofs.lemmas.Bool.{eq-eqb}
use Rattle.std.proofs.lemmas.Bool.Decides.{Decides-eqb}
use Rattle.tc_graph.specs.Sameness.{IdsAgree}
use Rattle.tc_graph.proofs.same.nodes_match.Goals as goal

pub returns : goal.returns
returns c =
    let agree : IdsAgree c.as_slice.result.now c.as_slice-2.result.now =
    c.ids_agree.ensures.0 (let a : c.ids_agree.result ≡ true = cc (c.if-not-ids_agree.false) in a) in
    let ids : IdsAgree c.args.p.now.id c.args.q.now.id =
    subst (λ (x : List ℕ). IdsAgree c.args.p.now.id x) c.as_slice-2.ensures
    (subst (λ (x : List ℕ). IdsAgree x c.as_slice-2.result.now) c.as_slice.ensures agree) in
    let numbers : c.as_slice-3.result.now ≡ c.as_slice-4.result.now =
    c.same_numbers.ensures.0 (let a : c.same_numbers.result ≡ true = cc (c.if-not-same_numbers.false) in a) in (
      λ t. record {
        kinds = c.if-p-q.false;
        ids = ids;
        numbers = sym c.as_slice-3.ensures ∙ numbers ∙ c.as_slice-4.ensures;
        names = sym c.len.ensures ∙ c.if-len.false ∙ c.len-2.ensures;
        edges = sym c.len-3.ensures ∙ (Decides-eqb c.len-3.result c.len-4.result).0 t ∙ c.len-4.ensures;
      },
      λ m. eq-eqb _ _ (c.len-3.ensures ∙ m.edges ∙ sym c.len-4.ensures),
    )
