mod FirstPlaces
mod Lists
mod RowsOfPlaces
mod Sharing
mod OneRow
