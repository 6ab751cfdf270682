-- Where the references of a module lead: to the services' module, or to a listed library.
use Rattle.std.specs.Prelude.{ℕ, List, Option, Some, None, if◌then◌else◌}
use Rattle.o2_image.specs.Parts.{Parts}
use Rattle.o2_dynlink.specs.declared.leads.Lead.{Lead}
use Rattle.o2_dynlink.specs.declared.leads.Lead.TheVariants.{Services, Library, Nowhere}
use Rattle.o2_dynlink.specs.Listed.{is_doscalls, library_named}

abbrev pub lead_to : Option ℕ → Lead
lead_to None = Nowhere
lead_to (Some place) = Library place

-- the lead of a name
abbrev pub lead_of : List Parts → List ℕ → Lead
lead_of ms name = if is_doscalls name then Services else lead_to (library_named ms name)
