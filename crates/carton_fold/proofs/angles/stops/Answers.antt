use Rattle.std.proofs.Common.{rules, ap, sym, ◌∙◌, List, Option, Ok}
use Rattle.std.proofs.lemmas.Simd.{map-map}
use Rattle.std.proofs.lemmas.Iterator.{YieldsList-from_slice, YieldsList-from_map, items_from_collect}
use Rattle.serde_json.specs.View.{view}
use Rattle.carton_base.specs.declared.ids.Stop.{Stop}
use Rattle.carton_fold.specs.Angles.{stop_of}
use Rattle.carton_fold.proofs.angles.stops.Goals as goal

pub returns : goal.returns
returns c =
    ap (λ (xs : List (Option Stop)). Ok xs) (map-map stop_of view c.args.list.now
    ∙ sym (items_from_collect {E = Unit {0}} (Ok c.in_ok-collect.field-0) c.in_ok-collect.ensures.ran
    (YieldsList-from_map _ (λ v. stop_of (view v)) (YieldsList-from_slice c.args.list.now (cc)) (cc)
    (λ x r q k. search rules))))
