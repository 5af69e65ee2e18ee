use Rattle.carton_setup.proofs.Outcomes.{reads_of, kept_in}
use Rattle.carton_catalogue.specs.declared.catalogue_error.CatalogueError.TheVariants.{Memory}
use Rattle.carton_catalogue.specs.Catalogues.{catalogue_of}
use Rattle.carton_catalogue.specs.CatalogueRules.{IsCatalogue}
use Rattle.carton_setup.specs.Rules.{catalogue_rule}
use Rattle.carton_words.specs.declared.kinds.FileKind.TheVariants.{Catalogue}
use Rattle.carton_setup.proofs.supply.catalogue_in.Goals as goal

pub returns-clause-reads : goal.returns-clause-reads
returns-clause-reads c =
    reads_of Catalogue catalogue_rule Memory (λ c. c) catalogue_of c.bytes_at.result.now _ c.bytes_at.ensures
    c.read_catalogue.result c.read_catalogue.ensures.reads
    c.accept.result c.accept.ensures

pub returns-clause-keeps_rules : goal.returns-clause-keeps_rules
returns-clause-keeps_rules c =
    kept_in Catalogue catalogue_rule IsCatalogue c.read_catalogue.result c.read_catalogue.ensures.keeps_rules
    c.accept.result c.accept.ensures
