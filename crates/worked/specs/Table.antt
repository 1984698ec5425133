-- All rows: those on the processor, on counting loops, on stack areas, on tables and on the run in both byte orders.
use Rattle.std.specs.Prelude.{List, ◌++◌}
use Rattle.worked.specs.Rows.{Row}
use Rattle.worked.specs.Processor.{processor_rows}
use Rattle.worked.specs.Counting.{counting_rows}
use Rattle.worked.specs.Areas.{area_rows}
use Rattle.worked.specs.Tables.{table_rows}
use Rattle.worked.specs.Packing.{packing_rows, run_rows}
use Rattle.worked.specs.Modules.{module_rows}

abbrev pub table : List Row
table =
    processor_rows 0
    ++ (processor_rows 1
    ++ (counting_rows 0
    ++ (counting_rows 1
    ++ (area_rows 0 ++ (area_rows 1 ++ (table_rows 0 ++ (table_rows 1 ++ (packing_rows ++ (run_rows 0 ++ (run_rows 1 ++ module_rows))))))))))
