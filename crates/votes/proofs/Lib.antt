mod NumberedTables
mod SideArcs
mod Assembled
