-- Objects and places that can be copied.
--     IsObjectShort, IsKeyShort     the actor of the id that an object or a key has, if it has one, has 1 to 1,024 bytes
use Rattle.std.specs.Prelude.{⊤}
use Rattle.am_types.specs.declared.ObjId.{ObjId}
use Rattle.am_types.specs.declared.ObjId.TheVariants.{Root, Made}
use Rattle.am_types.specs.declared.Key.{Key}
use Rattle.am_types.specs.declared.Key.TheVariants.{Name, Head, Elem}
use Rattle.am_fields.specs.Limits.{IsShortActor}

abbrev pub IsObjectShort : ObjId → Type 0
IsObjectShort Root = ⊤
IsObjectShort (Made id) = IsShortActor id.actor

abbrev pub IsKeyShort : Key → Type 0
IsKeyShort (Name n) = ⊤
IsKeyShort Head = ⊤
IsKeyShort (Elem id) = IsShortActor id.actor
