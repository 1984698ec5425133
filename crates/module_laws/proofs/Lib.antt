-- A module as a file (FileLaws), loads that halt (FirstLaws), and the theorems about loads and saves.
pub mod FileLaws
pub mod FirstLaws
pub mod Theorems
