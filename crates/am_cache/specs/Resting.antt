-- What a cache is once the text that it lent has been read.
use Rattle.std.specs.Prelude.{◌≡◌}
use Rattle.std.specs.Borrow.{Fml, MutBor}
use Rattle.std.specs.Io.BufRead.{Rests}
use Rattle.am_cache.specs.declared.view.View.{View}
use Rattle.am_cache.specs.Kept.{Kept, looked_up}
use Rattle.am_cache.specs.contracts.cache.Cache.{the_row}

abbrev pub RestsLookedUp : View → MutBor Kept → Fml
RestsLookedUp v c = Rests the_row c (λ n. n ≡ looked_up v c.now)
