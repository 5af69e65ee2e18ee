use Rattle.carton_catalogue.proofs.CataloguesSpelled.{read_back}
use Rattle.carton_catalogue.proofs.laws.each_catalogue_is_read_of_its_spelling.Goals as goal

pub returns : goal.returns
returns c = read_back
