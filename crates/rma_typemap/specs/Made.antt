-- What is known of a datatype.
use Rattle.rma_typemap.specs.declared.made.Made.{Made}
use Rattle.rma_typemap.specs.Typemap.{Typemap, elements, block_count}
use Rattle.rma_typemap.specs.Bounds.{size, lower_bound, upper_bound, extent, entry_count, is_solid}

abbrev pub made_of : Typemap → Made
made_of parts = record {
  size = size parts;
  lb = lower_bound parts;
  ub = upper_bound parts;
  extent = extent parts;
  entries = entry_count parts;
  blocks = block_count (elements parts);
  solid = is_solid parts;
}
