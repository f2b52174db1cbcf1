-- What C is told of the first record that addresses a cell.
use Rattle.spans.specs.declared.Origin.{Origin}
use Rattle.survey_c.specs.declared.Source.{Source}

-- every number of an origin
unfoldable pub source_of : Origin → Source
source_of o = record { ordinal = o.ordinal; place = o.place; byte = o.byte }
