-- What the types of this crate stand for.
use Rattle.std.specs.Prelude.{take}
use Rattle.rules.specs.Identity.{identity}
use Rattle.rules.specs.Table.{Record}
use Rattle.rules.specs.TableBytes.{leased}
use Rattle.search.specs.declared.Binding.{Binding}

abbrev pub binding_of : Binding → Record
binding_of b = record {
  owner = identity (take b.len b.duid) b.iaid;
  lease = leased b.prefix b.length b.excluded;
  end = b.end.0;
}
