-- What the code holds of a column, as definitions see it.
--     place_of p     the place within a run
--     sight_in s     a run that was seen
use Rattle.std.specs.Option.{option_copied}
use Rattle.am_runs.specs.declared.place.Position.{Position}
use Rattle.am_runs.specs.declared.judge.Seen.{Seen}
use Rattle.am_runs.specs.Judging.{Sight}
use Rattle.am_runs.specs.Walking.{Place}

abbrev pub place_of : Position → Place
place_of p = record { kind = p.kind; count = p.count; item = p.item.now; rest = p.rest.now }

abbrev pub sight_in : Seen → Sight
sight_in s = record { count = s.count; first = option_copied s.first; last = option_copied s.last; literal = s.literal; rest = s.rest.now }
