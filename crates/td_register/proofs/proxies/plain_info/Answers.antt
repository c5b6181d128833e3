use Rattle.std.proofs.Common.{◌≡◌, ℕ, List, [], None, false, refl}
use Rattle.td_typecode.specs.declared.reference.Ior.{Ior}
use Rattle.td_store.specs.declared.record.OfferRecord.{OfferRecord}
use Rattle.td_value.specs.declared.structures.Policy.{Policy}
use Rattle.td_value.specs.declared.structures.Property.{Property}
use Rattle.td_register.specs.Proxies.{proxy_info_of}
use Rattle.td_register.proofs.proxies.plain_info.Goals as goal

plain : (o : OfferRecord) (t : List ℕ × (Ior × List Property)) (recipe : List ℕ) (policies : List Policy) →
    t ≡ (o.service_type, (o.reference, o.properties)) → recipe ≡ [] → policies ≡ [] →
    record {
      service_type = t.0;
      target = t.1.0;
      properties = t.1.1;
      if_match_all = false;
      recipe = recipe;
      policies_to_pass_on = policies;
    }
    ≡ proxy_info_of o None
plain o t recipe policies h k l = rw (h, k, l) refl

pub returns : goal.returns
returns c =
    plain c.args.offer.now _ c.new.result c.new-2.result
    (rw (c.get.ensures, c.get-2.ensures, c.get-3.ensures) at c.in_ok-service_type.ensures) c.new.ensures
    c.new-2.ensures
