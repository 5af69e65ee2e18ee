use Rattle.carton_catalogue.proofs.KeptCatalogues.{keeps_rules}
use Rattle.carton_catalogue.proofs.catalogue_text.read_catalogue.Goals as goal

pub returns-clause-keeps_rules : goal.returns-clause-keeps_rules
returns-clause-keeps_rules c = keeps_rules c.args.bytes.now c.in_ok-read_freely.field-0 c.told.result
    c.in_ok-read_freely.ensures c.told.ensures
